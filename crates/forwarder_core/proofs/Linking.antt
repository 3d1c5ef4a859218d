-- What a link stands for, as it goes on.
use Rattle.std.proofs.Common.{◌≡◌, ℕ, ◌+◌, ◌-◌, min, Bool, true, false, List, [], ◌++◌, length, take, drop, Option, Some, None, refl, sym, ap, ◌∙◌, arith}
use Rattle.std.specs.Prelude.{◌&&◌, not, nat_lt, option_map, is_some, if◌then◌else◌}
use Rattle.std.proofs.lemmas.Bool.{le-ltb, lt-ltb}
use Rattle.std.proofs.lemmas.List.{drop-drop, length-drop}
use Rattle.pgw_frames.specs.declared.frame.Frame.{Frame}
use Rattle.pgw_frames.specs.Frames.{front, Whole, render}
use Rattle.pgw_messages.specs.declared.params.Pair.{Pair}
use Rattle.pgw_messages.specs.Startup.{startup_packet}
use Rattle.processor_core.specs.Streams.{Cuts}
use Rattle.proxy_outside.specs.Rules.{Rules}
use Rattle.session_model.specs.Kind.{Kind}
use Rattle.session_model.specs.Solo.{store_after}
use Rattle.forwarder_world.specs.Link as model
use Rattle.forwarder_core.specs.LinkStands.{LinkStands, taken_by, unless_cut, listens, hearing, opens_or_hears, turn}
use Rattle.forwarder_core.specs.declared.link.Link.{Link}
use Rattle.forwarder_core.proofs.Reading.{TakenSo, reads_on, reads_next}

pub nothing_cut : Cuts [] [] []
nothing_cut = record { frames_are = refl; rest_is = refl; length_is = refl }

pub some_packet : (p : List Pair) → nat_lt 0 (length (startup_packet p)) ≡ true
unfolding startup_packet
some_packet p = lt-ltb _ _ (omega arith)

pub goes_uncut : {S : Type 0} (f : model.Link S → model.Link S) (m : model.Link S) → m.cut ≡ false → unless_cut f m ≡ f m
goes_uncut f m e = ap (λ (b : Bool). if b then m else f m) e

module _ {X Y C R S : Type 0} (state : X → S) (l : Link X Y C R) (m : model.Link S) where
  -- a message was taken, or none
  pub taken_link : (r : Option Frame) (left : List ℕ) → TakenSo m r left → LinkStands state l m [] → LinkStands state (record l { replies = left }) (taken_by m r) []
  taken_link None left t h = record {
    startup = h.startup;
    unopened = h.unopened;
    pod = h.pod;
    bound = t.bound;
    replies = t.unread;
    reads = t.reads;
    session = h.session;
    cut = h.cut;
  }
  taken_link (Some f) left t h = record {
    startup = h.startup;
    unopened = h.unopened;
    pod = h.pod;
    bound = t.bound;
    replies = t.unread;
    reads = t.reads;
    session = h.session;
    cut = h.cut;
  }

module _ {S T C R : Type 0} (k : Kind S C R) (rules : Rules T C R) (m : model.Link S) (t : T) where
  pub heard_is : (s : S) (f : Frame) → m.session ≡ Some s → model.next_to_pod m ≡ Some f → hearing k rules m t ≡ (model.hears k rules m s t f, store_after rules t (k.asks s f))
  heard_is s f is next = ap (λ (o : Option S). listens k rules m t o (model.next_to_pod m)) is ∙ ap (λ (o : Option Frame). listens k rules m t (Some s) o) next

  pub heard_none : (s : S) → m.session ≡ Some s → model.next_to_pod m ≡ None → hearing k rules m t ≡ (m, t)
  heard_none s is next = ap (λ (o : Option S). listens k rules m t o (model.next_to_pod m)) is ∙ ap (λ (o : Option Frame). listens k rules m t (Some s) o) next

  pub turn_begins : (p : List Pair) → m.cut ≡ false → m.session ≡ None → turn k rules p m t ≡ (model.begins k p m, t)
  turn_begins p uncut none = ap (λ (b : Bool). if b then (m, t) else opens_or_hears k rules p m t m.session) uncut ∙ ap (λ (o : Option S). opens_or_hears k rules p m t o) none

  pub turn_hears : (p : List Pair) (s : S) → m.cut ≡ false → m.session ≡ Some s → turn k rules p m t ≡ hearing k rules m t
  turn_hears p s uncut some =
      ap (λ (b : Bool). if b then (m, t) else opens_or_hears k rules p m t m.session) uncut
      ∙ ap (λ (o : Option S). opens_or_hears k rules p m t o) some
      ∙ sym (ap (λ (o : Option S). listens k rules m t o (model.next_to_pod m)) some)

  pub begun_is : (p : List Pair) → nat_lt 0 (length m.startup) ≡ true → length m.startup - m.delivered ≡ 0
      → model.begins k p m ≡ record m { got = m.got ++ render (k.begins p).1; session = Some (k.begins p).0 }
  begun_is p some none =
      let there : nat_lt m.delivered (length m.startup) ≡ false = le-ltb _ _ (omega arith) in
      ap (λ (b : Bool). if b && not (nat_lt m.delivered (length m.startup)) then record m { got = m.got ++ render (k.begins p).1; session = Some (k.begins p).0 } else m) some
      ∙ ap (λ (b : Bool). if not b then record m { got = m.got ++ render (k.begins p).1; session = Some (k.begins p).0 } else m) there

pub has_some : {X S : Type 0} (state : X → S) (o : Option X) (n : Option S) → is_some o ≡ true → option_map state o ≡ n → (s : S) × (n ≡ Some s)
has_some state None n e is = absurd cc
has_some state (Some x) n e is = (state x, sym is)

pub has_none : {X S : Type 0} (state : X → S) (o : Option X) (n : Option S) → is_some o ≡ false → option_map state o ≡ n → n ≡ None
has_none state None n e is = sym is
has_none state (Some x) n e is = absurd cc

-- more of what the pod sent was read
pub reads_back_link : {X Y C R S : Type 0} (state : X → S) (l : Link X Y C R) (m : model.Link S) (held : List ℕ) (n come : ℕ) → come ≡ min n (length l.replies) → LinkStands state l m held
    → LinkStands state (record l { replies = drop come l.replies }) (model.reads_back m n) (held ++ take come l.replies)
reads_back_link state l m held n come e h =
    let size : length l.replies ≡ length m.got - m.back = ap length h.replies ∙ length-drop m.back m.got in
    let to : min (length m.got) (m.back + n) ≡ m.back + come = omega (arith, h.bound) in
    rw to (record {
      startup = h.startup;
      unopened = h.unopened;
      pod = h.pod;
      bound = omega (arith, h.bound);
      replies = ap (drop come) h.replies ∙ drop-drop come m.back m.got;
      reads = rw h.replies (reads_on m held come h.reads);
      session = h.session;
      cut = h.cut;
    })

-- a message was handed out
pub passes_link : {X Y C R S : Type 0} (state : X → S) (l : Link X Y C R) (m : model.Link S) (held left : List ℕ) (f : Frame) → front held ≡ Whole f left → LinkStands state l m held → LinkStands state l (model.passes m) left
passes_link state l m held left f e h = record {
  startup = h.startup;
  unopened = h.unopened;
  pod = h.pod;
  bound = h.bound;
  replies = h.replies;
  reads = reads_next m held left f e h.reads;
  session = h.session;
  cut = h.cut;
}
