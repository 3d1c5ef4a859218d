-- The headline of a call.
use Rattle.std.proofs.Common.{ℕ, List, [], ◌∷◌, ◌++◌, sym, ◌∙◌, append-nil}
use Rattle.pgw_frames.specs.Frames.{Begins}
use Rattle.session_trace.specs.Trace.{Opening, Round, Trace, all_relayed}
use Rattle.session_trace.specs.Journey.{keyed}
use Rattle.session_trace.specs.Headline.{Fits}
use Rattle.session_trace.specs.Calls.{Call}
use Rattle.session_trace.specs.Relayed.{Passes}
use Rattle.session_trace.specs.Fits.{FitsCall}

passed_begins : (c : Call) (first : Opening) (rs : List Round) (body : List ℕ) → Passes c first rs body → Begins body (keyed c.key first.got ++ all_relayed rs)
passed_begins c first [] body h = (h.0.0, h.0.1 ∙ sym (append-nil (keyed c.key first.got)))
passed_begins c first (r ∷ rs) body h = ([], append-nil body ∙ h)

pub fits_of : (c : Call) (t : Trace) (body : List ℕ) → FitsCall c t → Passes c t.first t.rounds body → Fits c.route c.key c.why.exchange_cut body t
fits_of c t body f h = record { first = f.first; rounds = f.rounds; given_begins = passed_begins c t.first t.rounds body h }
