-- What the records of a trace's links hold, and how often the session was moved.
use Rattle.std.specs.Prelude.{ℕ, List, ◌++◌, [], ◌∷◌, ◌+◌}
use Rattle.proxy_links.specs.Links.{LinkRecord, LinkCounts}
use Rattle.session_trace.specs.Trace.{Opening, Next, Same, Moved, link_sent_next, link_got_next, Round, Trace, held_last}

-- all that was sent on the open link, and all that was got, but for what is still held
abbrev pub link_sent : Opening → List Round → List ℕ
link_sent first [] = first.packet ++ first.asked
link_sent first (r ∷ rs) = link_sent_next r.next (link_sent first rs ++ r.forwarded ++ r.ask)

abbrev pub link_got : Opening → List Round → List ℕ
link_got first [] = first.got
link_got first (r ∷ rs) = link_got_next r.next (link_got first rs ++ r.relayed ++ r.answer)

abbrev pub opening_next : Next → Opening → Opening
opening_next Same o = o
opening_next (Moved c o) older = o

-- the opening of the open link
abbrev pub open_link : Opening → List Round → Opening
open_link first [] = first
open_link first (r ∷ rs) = opening_next r.next (open_link first rs)

-- the record of a link that was hung up
abbrev pub record_of : Opening → LinkCounts → List ℕ → List ℕ → LinkRecord
record_of o counts sent got = record { number = o.number; place = o.place; sent = sent; got = got; counts = counts }

abbrev pub left_next : Next → (LinkCounts → LinkRecord) → List LinkRecord
left_next Same l = []
left_next (Moved c o) l = l c ∷ []

-- the records of the links that were left so far, in order of hanging up
abbrev pub left : Opening → List Round → List LinkRecord
left first [] = []
left first (r ∷ rs) =
    left first rs ++ r.trials
    ++ left_next r.next (λ c. record_of (open_link first rs) c (link_sent first rs ++ r.forwarded ++ r.ask) (link_got first rs ++ r.relayed ++ r.answer))

-- the records of all links; what was got last and not relayed stands at the end of the last one
abbrev pub all_left : Trace → List LinkRecord
all_left t = left t.first t.rounds ++ record_of (open_link t.first t.rounds) t.counts (link_sent t.first t.rounds) (link_got t.first t.rounds ++ held_last t.rounds) ∷ []

abbrev pub moves_next : Next → ℕ
moves_next Same = 0
moves_next (Moved c o) = 1

-- how often the session was moved
abbrev pub moves_in : List Round → ℕ
moves_in [] = 0
moves_in (r ∷ rs) = moves_in rs + moves_next r.next

abbrev pub trials_in : List Round → List LinkRecord
trials_in [] = []
trials_in (r ∷ rs) = trials_in rs ++ r.trials
