-- The sample fits and is honest.
use Rattle.std.proofs.Common.{◌≡◌, ℕ, zero, suc, true, false, List, [], ◌∷◌, ◌++◌, Some, refl, sym, ap, arith, inl, inr}
use Rattle.std.specs.Prelude.{nat_lt}
use Rattle.std.specs.List.{AllByRecursion, list_all}
use Rattle.std.specs.Fmt.{digits}
use Rattle.std.proofs.lemmas.Bool.{ltb-true, and_parts}
use Rattle.base64.specs.Decode.{groups_error, groups_bytes, scan_steps}
use Rattle.base64.specs.Rfc4648.{encode_symbols}
use Rattle.hex.specs.Hex.{encode_with}
use Rattle.pgw_frames.specs.Frames.{IsGood, IsBytes, front, frames, frames_up_to, rest, rest_up_to, render}
use Rattle.pgw_messages.specs.Startup.{startup_packet}
use Rattle.proxy_links.specs.declared.dialer.Dial.{Dial}
use Rattle.session_model.specs.SafePoint.{safe}
use Rattle.session_model.specs.Texts.{transfer_query, transfer_columns, digits_row, transfer_tag, restore_query, restore_reply, restore_columns, restore_row, restore_tag}
use Rattle.transfer_stages.specs.Accepts.{AcceptsOld, AcceptsNew}
use Rattle.transfer_stages.specs.Exchange.{packet, is_auth_ok}
use Rattle.transfer_stages.specs.Rows.{auth_of, key_of, row_of}
use Rattle.transfer_stages.proofs.Columns.{transfer_named, restored_named}
use Rattle.pgw_messages.specs.Reading.{list_at}
use Rattle.transfer_stages.specs.declared.stage.Said.TheVariants.{Given}
use Rattle.tally_session.specs.Tally.{tally_kind, tally_rules}
use Rattle.session_trace.specs.Openings.{IsWhole, Opened, Reopens}
use Rattle.session_trace.specs.Transfers.{IsSafe, FitsRounds}
use Rattle.session_trace.specs.Attempts.{AllAttempts}
use Rattle.session_trace.specs.Records.{all_left}
use Rattle.session_trace.specs.Relayed.{IsGiven, Passes, Rejected}
use Rattle.session_trace.specs.Fits.{FitsCall}
use Rattle.session_trace.specs.Honest.{IsHonest, HonestRounds, SameButKeys}
use Rattle.session_trace.specs.Journey.{spoken}
use Rattle.trace_sample.specs.Sample.{params, place, client_key, transfer_key, greeted, asked, terminate, tallied, state, transferred, first_opening, later_opening, first_round, last_round, trace, pod, call}

-- ---- messages

good_greeted : AllByRecursion IsGood greeted
good_greeted = (omega arith, (omega arith, (omega arith, tt)))

whole_asked : IsWhole first_round.forwarded
whole_asked = record { fs = asked ∷ []; good = (omega arith, tt); bytes = refl }

whole_one : IsWhole first_round.relayed
unfolding digits
whole_one = record { fs = tallied 1; good = (omega arith, (omega arith, tt)); bytes = refl }

safe_one : IsSafe first_round.forwarded first_round.relayed
unfolding safe whole_asked whole_one
safe_one = record { sent = whole_asked; passed = whole_one; holds = refl }

whole_transferred : IsWhole first_round.answer
unfolding transfer_columns digits_row transfer_tag encode_symbols encode_with groups_error scan_steps groups_bytes digits
whole_transferred = record { fs = transferred; good = (omega arith, (omega arith, (omega arith, (omega arith, tt)))); bytes = refl }

accepts_old : AcceptsOld transfer_key params transferred (Given state [])
unfolding transfer_columns digits_row transfer_tag row_of list_at packet startup_packet encode_symbols encode_with groups_error scan_steps groups_bytes digits
accepts_old = record { columns = _; values = _; tag = _; ready = _; whole = refl; named = transfer_named; says = refl; ends = refl; fits = refl }

accepts_new : AcceptsNew (greeted ++ restore_reply) (Some (record { process = 0; secret = 0 }))
unfolding restore_columns restore_row restore_tag row_of key_of is_auth_ok auth_of list_at
accepts_new = record {
  greeting = greeted;
  reply = restore_reply;
  whole = refl;
  greets = record { auth = _; between = _ ∷ []; ready = _; whole = refl; begins = refl; known = refl; statuses = omega arith; keyed = refl; ends = refl };
  restores = record { columns = _; value = _; tag = _; ready = _; whole = refl; named = restored_named; true_row = refl; done = refl; ends = refl };
}

whole_reopened : IsWhole later_opening.got
unfolding restore_columns restore_row restore_tag
whole_reopened = record { fs = greeted ++ restore_reply; good = (omega arith, (omega arith, (omega arith, (omega arith, (omega arith, (omega arith, (omega arith, tt))))))); bytes = refl }

reopens : Reopens params state [] later_opening
unfolding whole_reopened
reopens = record { packet_is = refl; asked = refl; got = whole_reopened; key = _; accepted = accepts_new }

fits_rounds : FitsRounds params false trace.rounds
unfolding whole_transferred
fits_rounds = ((refl, refl), ((safe_one, (transfer_key, inl (refl, (whole_transferred, state, [], accepts_old, reopens)))), tt))

-- ---- bytes

from_test : (xs : List ℕ) → list_all (λ x. nat_lt x 256) xs ≡ true → IsBytes xs
from_test [] h i = omega arith
from_test (x ∷ xs) h zero = ltb-true x 256 (and_parts (nat_lt x 256) (list_all (λ x. nat_lt x 256) xs) h).0
from_test (x ∷ xs) h (suc i) = from_test xs (and_parts (nat_lt x 256) (list_all (λ x. nat_lt x 256) xs) h).1 i

-- ---- the call

same_place : (d e : Dial) → Some d ≡ Some e → e.place ≡ d.place
same_place d e h = let is : d ≡ e = cc in sym (ap (λ (x : Dial). x.place) is)

tries : AllAttempts params 1 false trace.rounds
tries = (
  (refl, refl, refl, refl),
  (
    record {
      request = refl;
      response = refl;
      nothing_held = refl;
      safe_there = safe_one;
      came_to = inr (inl tt);
      trials = tt;
      dialed = λ d e. same_place (record { place = place 2; came = true }) d e;
    },
    tt,
  ),
)

whole_last : IsWhole last_round.forwarded
whole_last = record { fs = asked ∷ terminate ∷ []; good = (omega arith, (omega arith, tt)); bytes = refl }

opened : Opened params first_opening
opened = record {
  packet = refl;
  login = record { fs = []; good = tt; bytes = refl };
  greeting = record { fs = greeted; good = good_greeted; bytes = refl };
  ready = (λ e. omega (arith, e), (λ e. omega (arith, e), refl));
}

records_are : call.records ≡ all_left trace
unfolding startup_packet packet transfer_query restore_query transfer_columns digits_row transfer_tag restore_columns restore_row restore_tag encode_symbols encode_with groups_error scan_steps groups_bytes digits
records_are = refl

given_is : IsGiven call (Passes call first_opening trace.rounds) (Rejected call trace.rounds)
unfolding front frames frames_up_to digits is_auth_ok auth_of
given_is = record { body = _; is = refl; either = inl refl }

pub sample_fits : FitsCall call trace
unfolding front frames frames_up_to whole_last
sample_fits = record {
  records = records_are;
  moves = refl;
  held = inr (record { early = []; late = []; parts = refl; few = omega arith; none_early = refl; none_at_end = λ e. refl });
  first = opened;
  rounds = fits_rounds;
  forwards = record { begins = ([], refl); at_bye = λ e. inl refl };
  given = given_is;
  attempts = tries;
  starved = refl;
  sides = ((whole_last, asked ∷ [], terminate, refl, refl), (λ e. absurd cc), (tt, tt, tt));
  holds = ((_, refl), tt);
  bytes = from_test first_opening.got refl;
}

-- ---- the pods

keys : SameButKeys greeted greeted
keys = (inl refl, (inl refl, (inl refl, tt)))

rounds_honest : HonestRounds tally_kind tally_rules params first_opening trace.rounds (pod ∷ pod ∷ [])
unfolding front frames frames_up_to rest rest_up_to startup_packet packet transfer_query restore_query transfer_columns digits_row transfer_tag restore_columns restore_row restore_tag tally_kind encode_symbols encode_with groups_error scan_steps groups_bytes digits is_auth_ok auth_of
rounds_honest = (tt, tt, (([], refl), ((keys, (omega arith, tt, (omega arith, tt, tt))), ([], refl)), tt))

pub sample_honest : IsHonest tally_kind tally_rules params trace (pod ∷ pod ∷ [])
unfolding front frames frames_up_to rest rest_up_to startup_packet packet transfer_query restore_query transfer_columns digits_row transfer_tag restore_columns restore_row restore_tag tally_kind encode_symbols encode_with groups_error scan_steps groups_bytes digits is_auth_ok auth_of
sample_honest = record {
  small = omega arith;
  rounds = rounds_honest;
  answers = (keys, (omega arith, tt, (omega arith, tt, (omega arith, tt, tt))));
  ends = λ e. ([], refl);
}

pub sample_said : call.given ≡ 78 ∷ render (spoken tally_kind client_key params trace (pod ∷ pod ∷ []))
unfolding front frames frames_up_to rest rest_up_to startup_packet packet transfer_query restore_query transfer_columns digits_row transfer_tag restore_columns restore_row restore_tag tally_kind encode_symbols encode_with groups_error scan_steps groups_bytes digits is_auth_ok auth_of
sample_said = refl
