-- What a connection holds while its session runs, and one run of both legs.
use Rattle.proxy_outside.specs.Reading.{Origin}
use Rattle.proxy_outside.specs.Writing.{Target}
use Rattle.processor_core.specs.declared.request.Request.{Request}
use Rattle.processor_core.specs.declared.response.Response.{Response}
use Rattle.proxy_links.specs.Board.{Half}
use Rattle.session_legs.specs.Legs.{Hands, Runs, Flow}
use Rattle.processor_core.specs.Stands.{RequestStands, ResponseStands}
use Rattle.session_legs.specs.Laws.{is_terminate, never}
use Rattle.session_legs.specs.declared.side.LegEnd.{LegEnd}
use Rattle.std.specs.Prelude.{ℕ, List, ◌++◌}
use Rattle.pgw_frames.specs.Frames.{render}

-- what is told of the halves that a connection owns, and its processors
pub record Now : Type 0 where
  pub client_in : Origin
  pub client_out : Target
  pub tx : Target
  pub rx : Origin
  pub request : Request
  pub response : Response

-- the marks of both sides
pub record Board : Type 0 where
  pub front : Half
  pub back : Half

abbrev pub request_hands : Now → Half → Hands
request_hands n h = record { source = n.client_in; sink = n.tx; marks = h }

abbrev pub response_hands : Now → Half → Hands
response_hands n h = record { source = n.rx; sink = n.client_out; marks = h }

-- both legs ran once
pub record RunsRound (old new : Now) (board board' : Board) (why why' : LegEnd) : Type 0 where
  pub request : Runs RequestStands is_terminate (request_hands old board.front) (request_hands new board'.front) old.request new.request why
  pub response : Runs ResponseStands never (response_hands old board.back) (response_hands new board'.back) old.response new.response why'

-- the bytes that were written
abbrev pub written : Flow → List ℕ
written m = render m.messages ++ m.partial
