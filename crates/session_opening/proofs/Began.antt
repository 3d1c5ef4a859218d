-- What was read and written of each side up to the end of a greeting, the startup packet among it.
use Rattle.std.proofs.Common.{◌≡◌, ◌⊎◌, ℕ, List, [], ◌++◌, take, Option, inl, inr, refl, sym, ap, ◌∙◌, subst, append-nil}
use Rattle.pgw_frames.specs.Frames.{Begins}
use Rattle.pgw_messages.specs.Startup.{startup_packet}
use Rattle.pgw_messages.specs.declared.params.Pair.{Pair}
use Rattle.pgw_messages.specs.declared.pod_key.PodKey.{PodKey}
use Rattle.proxy_outside.specs.Writing.{Target}
use Rattle.proxy_outside.specs.declared.identity.ClientKey.{ClientKey}
use Rattle.proxy_links.specs.Told.{push}
use Rattle.link_io.proofs.Parts.{push_push, push_nil}
use Rattle.session_trace.specs.Journey.{keyed}
use Rattle.session_greeting.specs.Greeting.{Halves}
use Rattle.session_greeting.specs.declared.greeting.Limits.{Limits}
use Rattle.session_greeting.specs.declared.login.Greeted.{Greeted}
use Rattle.session_greeting.specs.declared.login.Greeted.TheVariants.{Ready, PodCut, NoMemory}
use Rattle.transfer_stages.specs.declared.stage.Cut.TheVariants.{WriteFault}
use Rattle.session_opening.specs.Beginning.{SendsPacket, Follows, BeginsSession as Begins_on}
use Rattle.session_opening.specs.declared.greeting.Packet.{Packet}
use Rattle.session_opening.specs.declared.greeting.Packet.TheVariants.{Sent, Cut, NoMemory as Lacking}
use Rattle.session_greeting.proofs.Went.{EndsAs, Fronts, Went, begins_none, begins_take, by_greeting}

-- a whole packet with a front of messages behind it, or a part of the packet alone
abbrev pub IsBegun : List Pair → List ℕ → List ℕ → Type 0
IsBegun p packet asked = ((packet ≡ startup_packet p) × Fronts asked) ⊎ (Begins packet (startup_packet p) × (asked ≡ []))

pub record Began (p : List Pair) (key : ClientKey) (old new : Halves) (g : Greeted) : Type 0 where
  pub packet : List ℕ
  pub asked : List ℕ
  pub got : List ℕ
  pub taken : List ℕ
  pub given : List ℕ
  pub tx : new.tx.contents ≡ push old.tx.contents (packet ++ asked)
  pub rx : new.rx.taken ≡ push old.rx.taken got
  pub client_in : new.client_in.taken ≡ push old.client_in.taken taken
  pub client_out : new.client_out.contents ≡ push old.client_out.contents given
  pub opens : IsBegun p packet asked
  pub forwards : Begins asked taken
  pub passes : Begins given (keyed key got)
  pub ends : EndsAs g key asked got taken given
  pub ready : (k : Option PodKey) (w : ℕ) → g ≡ Ready k w → packet ≡ startup_packet p

-- behind a whole packet
sent_whole : (p : List Pair) (key : ClientKey) (limits : Limits) (waited : ℕ) (old new : Halves) (tx : Target) (g : Greeted) → tx.contents ≡ push old.tx.contents (startup_packet p) → Went key (record old { tx = tx }) new g → Began p key old new g
sent_whole p key limits waited old new tx g wrote w = record {
  packet = startup_packet p;
  asked = w.asked;
  got = w.got;
  taken = w.taken;
  given = w.given;
  tx = w.tx ∙ ap (λ (v : Option (List ℕ)). push v w.asked) wrote ∙ push_push old.tx.contents (startup_packet p) w.asked;
  rx = w.rx;
  client_in = w.client_in;
  client_out = w.client_out;
  opens = inl (refl, w.fronts);
  forwards = w.forwards;
  passes = w.passes;
  ends = w.ends;
  ready = λ k n e. refl;
}

-- a part of the packet alone
sent_part : (p : List Pair) (key : ClientKey) (old new : Halves) (tx : Target) (g : Greeted) (part : List ℕ) → Begins part (startup_packet p) → tx.contents ≡ push old.tx.contents part → new ≡ record old { tx = tx }
    → EndsAs g key [] [] [] [] → ((k : Option PodKey) (w : ℕ) → g ≡ Ready k w → part ≡ startup_packet p) → Began p key old new g
sent_part p key old new tx g part begins wrote same ends ready = record {
  packet = part;
  asked = [];
  got = [];
  taken = [];
  given = [];
  tx = ap (λ (x : Halves). x.tx.contents) same ∙ wrote ∙ ap (push old.tx.contents) (sym (append-nil part));
  rx = ap (λ (x : Halves). x.rx.taken) same ∙ sym (push_nil old.rx.taken);
  client_in = ap (λ (x : Halves). x.client_in.taken) same ∙ sym (push_nil old.client_in.taken);
  client_out = ap (λ (x : Halves). x.client_out.contents) same ∙ sym (push_nil old.client_out.contents);
  opens = inr (begins, refl);
  forwards = begins_none [];
  passes = begins_none (keyed key []);
  ends = ends;
  ready = ready;
}

by_packet : (p : List Pair) (key : ClientKey) (limits : Limits) (waited : ℕ) (old new : Halves) (tx : Target) (g : Greeted) (x : Packet) → SendsPacket p old.tx tx x → Follows x key limits waited (record old { tx = tx }) new g → Began p key old new g
by_packet p key limits waited old new tx g Sent wrote h = sent_whole p key limits waited old new tx g wrote.contents (by_greeting key limits waited (record old { tx = tx }) new g h)
by_packet p key limits waited old new tx g Cut some h =
    subst (λ (x : Greeted). Began p key old new x) (sym h.0)
    (sent_part p key old new tx (PodCut WriteFault) (take some.count (startup_packet p)) (begins_take some.count (startup_packet p)) some.wrote.contents h.1 tt (λ k n e. absurd (cc)))
by_packet p key limits waited old new tx g Lacking same h =
    subst (λ (x : Greeted). Began p key old new x) (sym h.0)
    (sent_part p key old new tx NoMemory [] (begins_none (startup_packet p)) (ap (λ (x : Target). x.contents) same ∙ sym (push_nil old.tx.contents)) h.1 tt (λ k n e. absurd (cc)))

pub began : (p : List Pair) (key : ClientKey) (limits : Limits) (waited : ℕ) (old new : Halves) (g : Greeted) → Begins_on p key limits waited old new g → Began p key old new g
began p key limits waited old new g b = by_packet p key limits waited old new b.tx g b.packet b.sends b.behind
