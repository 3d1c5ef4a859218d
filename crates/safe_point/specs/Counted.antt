-- The safe point, by what was counted.
use Rattle.std.specs.Prelude.{◌==◌, nat_lt, Bool, ◌&&◌, ◌||◌}
use Rattle.pgw_messages.specs.Tags as tag
use Rattle.session_model.specs.Tags.{is_ask}
use Rattle.processor_core.specs.declared.tally.RequestTally.{RequestTally}
use Rattle.processor_core.specs.declared.tally.ResponseTally.{ResponseTally}

abbrev pub are_safe : RequestTally → ResponseTally → Bool
are_safe q r =
    (is_ask q.last || (q.last == tag.copy_done) || (q.last == tag.copy_fail))
    && (is_ask q.last_plain
    && ((q.qs == r.zs)
    && ((r.last == tag.ready_for_query)
    && (nat_lt q.qs 18446744073709551615
    && (q.at_boundary && r.empty)))))
