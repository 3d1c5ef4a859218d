-- What was got of an old pod that was left: it gives no state.
use Rattle.std.proofs.Common.{◌≡◌, ℕ, ◌+◌, List, [], ◌∷◌, ◌++◌, sym, ap, subst, ◌∙◌, append-nil, inl, inr}
use Rattle.std.specs.List.{AllByRecursion}
use Rattle.pgw_frames.specs.Frames.{IsGood, frames, frame_bytes, render}
use Rattle.pgw_frames.specs.declared.frame.Frame.{Frame}
use Rattle.pgw_messages.specs.declared.params.Pair.{Pair}
use Rattle.proxy_outside.specs.Reading.{Origin}
use Rattle.link_io.specs.Reading.{ReadOn}
use Rattle.link_io.proofs.Parts.{read_more}
use Rattle.link_transfer.specs.Hearing.{IsPart, BadHead}
use Rattle.link_transfer.specs.Telling.{CutAt, OldLeft, tags, all_dues}
use Rattle.link_transfer.specs.Transfers.{OldLeaves}
use Rattle.session_asks.specs.Dialing.{GivesState}
use Rattle.session_model.specs.declared.transfer.TransferKey.{TransferKey}
use Rattle.transfer_stages.specs.Taking.{Leads}
use Rattle.transfer_stages.specs.declared.stage.Cut.{Cut}
use Rattle.transfer_stages.specs.declared.stage.Cut.TheVariants.{ReadFault, WriteFault, Ended, BadLength, Unexpected, Strayed, Late}
use Rattle.transfer_stages.specs.declared.stage.Outcome.TheVariants as outcome
use Rattle.transfer_stages.specs.declared.stage.Stage.TheVariants as at
use Rattle.transfer_stages.specs.declared.stage.Want.TheVariants.{AwaitOld}
use Rattle.transfer_laws.proofs.Fronts.{part_frames, bad_frames}
use Rattle.transfer_laws.proofs.OldHeard.{awaits}
use Rattle.session_moves.proofs.Gifts.{led_gives_none, few_give_none, stray_gives_none}
use Rattle.session_moves.proofs.OldTypes.{so_tags}

pub record Got (p : List Pair) (one two : Origin) : Type 0 where
  pub bytes : List ℕ
  pub idles : ℕ
  pub read : ReadOn one two bytes idles
  pub no_state : GivesState p bytes → ⊥

-- behind these messages
record GotBehind (p : List Pair) (fs : List Frame) (one two : Origin) : Type 0 where
  bytes : List ℕ
  idles : ℕ
  read : ReadOn one two bytes idles
  no_state : GivesState p (render fs ++ bytes) → ⊥

none_in_part : (part : List ℕ) → IsPart part → frames part ≡ []
none_in_part part h = ap frames (sym (append-nil part)) ∙ part_frames part h

none_in_head : (head : List ℕ) (n : ℕ) → BadHead head n → frames head ≡ []
none_in_head head n b = ap frames (sym (append-nil head)) ∙ bad_frames head [] n b

module _ (p : List Pair) (fs : List Frame) (good : AllByRecursion IsGood fs) where
  cut_got : (c : Cut) (more : List ℕ) (before patience : ℕ) (one two : Origin) → tags fs ++ more ≡ all_dues → CutAt c more before patience one two → GotBehind p fs one two
  cut_got (Strayed g) (d ∷ ds) before patience one two due h = record {
    bytes = frame_bytes h.1.message;
    idles = h.1.comes.heard.idles;
    read = h.1.comes.heard.read;
    no_state = stray_gives_none p fs h.1.message d ds good h.1.comes.good due (λ e. h.2 (sym h.1.tagged ∙ e));
  }
  cut_got ReadFault (d ∷ ds) before patience one two due h = record { bytes = h.part; idles = h.heard.idles; read = h.heard.read; no_state = few_give_none p fs h.part d ds good due (none_in_part h.part h.why.0) }
  cut_got Ended (d ∷ ds) before patience one two due h = record { bytes = h.part; idles = h.heard.idles; read = h.heard.read; no_state = few_give_none p fs h.part d ds good due (none_in_part h.part h.why.0) }
  cut_got (Late n) (d ∷ ds) before patience one two due h = record { bytes = h.part; idles = h.heard.idles; read = h.heard.read; no_state = few_give_none p fs h.part d ds good due (none_in_part h.part h.why.0) }
  cut_got (BadLength n) (d ∷ ds) before patience one two due h = record { bytes = h.part; idles = h.heard.idles; read = h.heard.read; no_state = few_give_none p fs h.part d ds good due (none_in_head h.part n h.why) }
  cut_got WriteFault (d ∷ ds) before patience one two due h = absurd h
  cut_got (Unexpected f) (d ∷ ds) before patience one two due h = absurd h
  cut_got (Strayed g) [] before patience one two due h = absurd h
  cut_got ReadFault [] before patience one two due h = absurd h
  cut_got Ended [] before patience one two due h = absurd h
  cut_got (Late n) [] before patience one two due h = absurd h
  cut_got (BadLength n) [] before patience one two due h = absurd h
  cut_got WriteFault [] before patience one two due h = absurd h
  cut_got (Unexpected f) [] before patience one two due h = absurd h

some_due : (c : Cut) (more : List ℕ) (before patience : ℕ) (one two : Origin) → CutAt c more before patience one two → more ≡ [] → ⊥
some_due c [] before patience one two h e = absurd h
some_due c (d ∷ ds) before patience one two h e = cc

left_got : (t : TransferKey) (p : List Pair) (patience : ℕ) (c : Cut) (one two : Origin) → OldLeft c t p patience one two → Got p one two
left_got t p patience c one two l =
    let fs : List Frame = l.so.frames ++ l.dropped in
    let due = so_tags t p l.waits one l.between l.stage l.dropped l.more l.so (awaits l.stage l.dropped l.more l.so.due (some_due c l.more l.waits patience l.between two l.cut)) in
    let more = cut_got p fs l.so.good c l.more l.waits patience l.between two due l.cut in
    record {
      bytes = render fs ++ more.bytes;
      idles = l.so.heard.idles + more.idles;
      read = read_more one l.between two (render fs) more.bytes l.so.heard.idles more.idles l.so.heard.read more.read;
      no_state = more.no_state;
    }

pub leaves_got : (t : TransferKey) (p : List Pair) (patience : ℕ) (c : Cut) (one two : Origin) → OldLeaves t p patience c one two → Got p one two
leaves_got t p patience c one two (inl e) = record {
  bytes = render (e.so.frames ++ []);
  idles = e.so.heard.idles;
  read = e.so.heard.read;
  no_state = led_gives_none t p (e.so.frames ++ []) (at.Ended (outcome.OldCut c)) e.so.good
      (subst (λ (fs : List Frame). Leads AwaitOld t p at.OldColumns fs (at.Ended (outcome.OldCut c))) (sym (append-nil e.so.frames)) e.so.leads) (λ state token e. cc);
}
leaves_got t p patience c one two (inr l) = left_got t p patience c one two l
