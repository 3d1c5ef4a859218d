-- Halves keep their link's number.
use Rattle.std.proofs.Common.{◌≡◌, ℕ, List, [], ◌∷◌, sym, ap, subst, ◌∙◌, inl, inr, Option}
use Rattle.pgw_messages.specs.declared.params.Pair.{Pair}
use Rattle.pgw_messages.specs.declared.pod_key.PodKey.{PodKey}
use Rattle.session_model.specs.declared.transfer.TransferKey.{TransferKey}
use Rattle.proxy_links.specs.Links.{Links}
use Rattle.proxy_outside.specs.declared.place.Place.{Place}
use Rattle.proxy_outside.specs.Reading.{Origin}
use Rattle.proxy_outside.specs.Writing.{Target}
use Rattle.transfer_stages.specs.declared.stage.Cut.{Cut}
use Rattle.transfer_stages.specs.declared.stage.Cut.TheVariants.{ReadFault, WriteFault, Ended, BadLength, Unexpected, Strayed, Late}
use Rattle.transfer_laws.specs.Numbers.{KeepsLinks, TransferKeepsLinks}
use Rattle.link_transfer.specs.Telling.{CutAt}
use Rattle.link_transfer.specs.Transfers.{Moves, OldLeaves, Goes}
use Rattle.link_transfer.specs.declared.moving.Transferred.{Transferred}
use Rattle.link_transfer.specs.declared.moving.Transferred.TheVariants.{Moved, Refused, RevivalRefused, DialFault, NewCut, OldCut, NoMemory}

cut_link : (c : Cut) (more : List ℕ) (before patience : ℕ) (old new : Origin) → CutAt c more before patience old new → new.link ≡ old.link
cut_link (Strayed g) (d ∷ ds) before patience old new h = h.1.comes.heard.read.link
cut_link ReadFault (d ∷ ds) before patience old new h = h.heard.read.link
cut_link Ended (d ∷ ds) before patience old new h = h.heard.read.link
cut_link (Late n) (d ∷ ds) before patience old new h = h.heard.read.link
cut_link (BadLength n) (d ∷ ds) before patience old new h = h.heard.read.link
cut_link WriteFault (d ∷ ds) before patience old new h = absurd h
cut_link (Unexpected f) (d ∷ ds) before patience old new h = absurd h
cut_link (Strayed g) [] before patience old new h = absurd h
cut_link ReadFault [] before patience old new h = absurd h
cut_link Ended [] before patience old new h = absurd h
cut_link (Late n) [] before patience old new h = absurd h
cut_link (BadLength n) [] before patience old new h = absurd h
cut_link WriteFault [] before patience old new h = absurd h
cut_link (Unexpected f) [] before patience old new h = absurd h

leaves_link : (t : TransferKey) (p : List Pair) (patience : ℕ) (c : Cut) (old new : Origin) → OldLeaves t p patience c old new → new.link ≡ old.link
leaves_link t p patience c old new (inl e) = e.so.heard.read.link
leaves_link t p patience c old new (inr l) = cut_link c l.more l.waits patience l.between new l.cut ∙ l.so.heard.read.link

alike : (p : List Pair) (state token : List ℕ) (at : Place) (patience : ℕ) (old new : Links) (l : Target) (r : Origin) (key : Option PodKey) (m : Moves p state token at patience old new l r key) → l.link ≡ r.link
alike p state token at patience old new l r key m =
    m.restored.wrote.link ∙ ap (λ (k : Target). k.link) m.came.tx ∙ sym (ap (λ (s : Origin). s.link) m.came.rx) ∙ sym m.restored.heard.read.link

-- behind a Query that was written to a half of the old link
links_kept : {T R : Type 0} (target : T → Target) (origin : R → Origin) (t : TransferKey) (p : List Pair) (at : Place) (patience : ℕ) (old new : Links) (k l : Target) (one two : Origin) (answer : Transferred T R)
    → l.link ≡ k.link → Goes target origin t p at patience old new one two answer → KeepsLinks target origin k l one two answer
links_kept target origin t p at patience old new k l one two (Moved tx rx key) e g =
    record { tx = e; rx = g.reply.heard.read.link; moved = alike p g.state g.token at patience old new (target tx) (origin rx) key g.tries }
links_kept target origin t p at patience old new k l one two DialFault e g = record { tx = e; rx = g.reply.heard.read.link; moved = tt }
links_kept target origin t p at patience old new k l one two (NewCut c) e g = record { tx = e; rx = g.reply.heard.read.link; moved = tt }
links_kept target origin t p at patience old new k l one two (RevivalRefused f) e g = record { tx = e; rx = g.reply.heard.read.link; moved = tt }
links_kept target origin t p at patience old new k l one two (Refused reason) e g = record { tx = e; rx = g.0.heard.read.link; moved = tt }
links_kept target origin t p at patience old new k l one two (OldCut c) e g = record { tx = e; rx = leaves_link t p patience c one two g.0; moved = tt }
links_kept target origin t p at patience old new k l one two NoMemory e (inl a) = record { tx = e; rx = a.reply.heard.read.link; moved = tt }
links_kept target origin t p at patience old new k l one two NoMemory e (inr b) = record { tx = e; rx = b.0.so.heard.read.link; moved = tt }

pub transfer_keeps_links : {T R : Type 0} (target : T → Target) (origin : R → Origin) → TransferKeepsLinks target origin
transfer_keeps_links {T} {R} target origin t p at patience old new k l one two answer (inl u) =
    subst (λ (a : Transferred T R). KeepsLinks target origin k l one two a) (sym u.is) (record { tx = u.some.wrote.link; rx = ap (λ (s : Origin). s.link) u.unread; moved = tt })
transfer_keeps_links target origin t p at patience old new k l one two answer (inr m) = links_kept target origin t p at patience old new k l one two answer m.0.link m.1
