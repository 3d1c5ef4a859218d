-- The count of faults of the client's sink, from the startup packet to the end of the greeting.
use Rattle.std.proofs.Common.{◌≡◌, ◌≤◌, ℕ, List, inl, inr, ap, arith}
use Rattle.pgw_messages.specs.declared.params.Pair.{Pair}
use Rattle.proxy_outside.specs.Writing.{Target}
use Rattle.proxy_outside.specs.declared.identity.ClientKey.{ClientKey}
use Rattle.session_greeting.specs.Greeting.{Halves, Greets}
use Rattle.session_greeting.specs.declared.greeting.Limits.{Limits}
use Rattle.session_greeting.specs.declared.login.Greeted.{Greeted}
use Rattle.session_opening.specs.Beginning.{Follows, BeginsSession}
use Rattle.session_opening.specs.declared.greeting.Packet.{Packet}
use Rattle.session_opening.specs.declared.greeting.Packet.TheVariants as packet

same_faults : (k l : Target) → l ≡ k → k.faults ≤ l.faults
same_faults k l e = let f = ap (λ (x : Target). x.faults) e in omega (arith, f)

greets_faults : (key : ClientKey) (limits : Limits) (waited : ℕ) (old new : Halves) (g : Greeted) → Greets key limits waited old new g → old.client_out.faults ≤ new.client_out.faults
greets_faults key limits waited old new g h =
    let p = h.so_far.given.faults in
    let q : h.between.client_out.faults ≤ new.client_out.faults = elim h.last [
      | inl broken ↦ same_faults h.between.client_out new.client_out broken.ends.unpassed
      | inr others ↦ elim others [
        | inl lost ↦ same_faults h.between.client_out new.client_out lost.ends.unpassed
        | inr came ↦ elim came.takes [
          | inl ends ↦ same_faults h.between.client_out new.client_out ends.unpassed
          | inr more ↦ elim more [
            | inl misfits ↦ same_faults h.between.client_out new.client_out misfits.ends.unpassed
            | inr rest ↦ elim rest [ inl unpassed ↦ unpassed.some.wrote.faults | inr passes ↦ passes.wrote.faults ]
          ]
        ]
      ]
    ] in
    omega (arith, p, q)

begins_faults : (key : ClientKey) (limits : Limits) (waited : ℕ) (old new : Halves) (tx : Target) (g : Greeted) (x : Packet) → Follows x key limits waited (record old { tx = tx }) new g → old.client_out.faults ≤ new.client_out.faults
begins_faults key limits waited old new tx g packet.Sent h = greets_faults key limits waited (record old { tx = tx }) new g h
begins_faults key limits waited old new tx g packet.Cut h = same_faults old.client_out new.client_out (ap (λ (x : Halves). x.client_out) h.1)
begins_faults key limits waited old new tx g packet.NoMemory h = same_faults old.client_out new.client_out (ap (λ (x : Halves). x.client_out) h.1)

-- it never falls
pub sink_faults : (p : List Pair) (key : ClientKey) (limits : Limits) (waited : ℕ) (old new : Halves) (g : Greeted) → BeginsSession p key limits waited old new g → old.client_out.faults ≤ new.client_out.faults
sink_faults p key limits waited old new g b = begins_faults key limits waited old new b.tx g b.packet b.behind
