-- One session that is never moved, with the one store that other clients change too.
use Rattle.std.specs.Prelude.{ℕ, ◌+◌, List, [], ◌∷◌, ◌++◌, Option, Some, None, slice_get}
use Rattle.pgw_frames.specs.declared.frame.Frame.{Frame}
use Rattle.pgw_frames.specs.Frames.{frames}
use Rattle.proxy_outside.specs.Rules.{Rules}
use Rattle.session_model.specs.Kind.{Kind}
use Rattle.pgw_messages.specs.declared.params.Pair.{Pair}

-- what may happen to the session: it takes the next message, or another client steps the store
pub data Deed (C : Type 0) : Type 0 where
  Take : Deed C
  Other : C → Deed C

pub record Solo (S T : Type 0) : Type 0 where
  pub session : S
  pub store : T
  pub taken : ℕ
  pub replied : List Frame

abbrev pub store_after : {T C R : Type 0} → Rules T C R → T → Option C → T
store_after rules t None = t
store_after rules t (Some c) = rules.next t c

abbrev pub answer_to : {T C R : Type 0} → Rules T C R → T → Option C → Option R
answer_to rules t None = None
answer_to rules t (Some c) = Some (rules.reply t c)

-- a message is told, with the store's answer to what it asks
abbrev pub told : {S T C R : Type 0} → Kind S C R → Rules T C R → S → T → Frame → S × List Frame
told k rules s t f = k.tells s f (answer_to rules t (k.asks s f))

abbrev pub takes : {S T C R : Type 0} → Kind S C R → Rules T C R → Solo S T → Option Frame → Solo S T
takes k rules so None = so
takes k rules so (Some f) = record {
  session = (told k rules so.session so.store f).0;
  store = store_after rules so.store (k.asks so.session f);
  taken = so.taken + 1;
  replied = so.replied ++ (told k rules so.session so.store f).1;
}

abbrev pub does : {S T C R : Type 0} → Kind S C R → Rules T C R → List Frame → Solo S T → Deed C → Solo S T
does k rules fs so Take = takes k rules so (slice_get fs so.taken)
does k rules fs so (Other c) = record { session = so.session; store = rules.next so.store c; taken = so.taken; replied = so.replied }

abbrev pub lives : {S T C R : Type 0} → Kind S C R → Rules T C R → List Frame → Solo S T → List (Deed C) → Solo S T
lives k rules fs so [] = so
lives k rules fs so (d ∷ ds) = lives k rules fs (does k rules fs so d) ds

abbrev pub begun : {S T C R : Type 0} → Kind S C R → Rules T C R → List Pair → Solo S T
begun k rules p = record { session = (k.begins p).0; store = rules.first; taken = 0; replied = [] }

-- one session begun with p, over a whole story
abbrev pub solo : {S T C R : Type 0} → Kind S C R → Rules T C R → List Pair → List ℕ → List (Deed C) → Solo S T
solo k rules p script story = lives k rules (frames script) (begun k rules p) story
