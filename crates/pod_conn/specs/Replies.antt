-- What a pod writes for the bytes that it took.
use Rattle.std.specs.Prelude.{ℕ, List, replicate}
use Rattle.pgw_messages.specs.declared.params.Pair.{Pair}
use Rattle.session_model.specs.Kind.{Kind}
use Rattle.pod_conn.specs.declared.settings.PodSettings.{PodSettings}
use Rattle.pod_conn.specs.Courses.{BadStart, Left, Course, stands, writes, resting}
use Rattle.pod_conn.specs.Entrances.{Comer, Nobody, Visitor, Canceller, Stranger, Entrance, entrance}
use Rattle.pod_conn.specs.Logins.{Admission, In, Out, Login, login}
use Rattle.pod_conn.specs.Sessions.{begun}

module _ {S C R : Type 0} (k : Kind S C R) (pod : PodSettings) where
  abbrev pub admitted : Admission → List R → Course C R
  admitted (In q b) rs = begun k q b rs
  admitted (Out at) rs = stands at

  -- behind the login comes the session
  abbrev pub logged_in : Login → List R → Course C R
  logged_in l rs = writes l.written (admitted l.outcome rs)

  abbrev pub received : ℕ → Comer → List R → Course C R
  received now (Nobody b) rs = stands (resting b)
  received now (Visitor p b) rs = logged_in (login pod now p b) rs
  received now Canceller rs = stands Left
  received now Stranger rs = stands BadStart

  abbrev pub course_of : ℕ → Entrance → List R → Course C R
  course_of now e rs = writes (replicate e.says 78) (received now e.comer rs)

  -- the course of all the bytes that were taken, at this moment and with these answers of the store
  abbrev pub conn_course : ℕ → List ℕ → List R → Course C R
  conn_course now b rs = course_of now (entrance b) rs

  -- what is written for them
  abbrev pub conn_replies : ℕ → List ℕ → List R → List ℕ
  conn_replies now b rs = (conn_course now b rs).written
