-- What is written for more bytes goes on behind what was written for those before.
use Rattle.std.specs.Prelude.{ℕ, List, ◌++◌}
use Rattle.pgw_frames.specs.Frames.{Begins}
use Rattle.session_model.specs.Kind.{Kind}
use Rattle.pod_conn.specs.declared.settings.PodSettings.{PodSettings}
use Rattle.pod_conn.specs.Replies.{conn_replies}

abbrev pub RepliesGrow : {S C R : Type 0} → Kind S C R → Type 0
RepliesGrow {S} {C} {R} k =
    (pod : PodSettings) (now : ℕ) (b more : List ℕ) (rs others : List R) → Begins (conn_replies k pod now b rs) (conn_replies k pod now (b ++ more) (rs ++ others))
