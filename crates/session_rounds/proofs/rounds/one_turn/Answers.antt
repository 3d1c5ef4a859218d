use Rattle.std.proofs.Common.{rules, ◌≡◌, true, false}
use Rattle.session_round.specs.Halves.{now_of, board_of}
use Rattle.session_rounds.specs.Scenes.{scene}
use Rattle.session_rounds.specs.Turns.{is_look}
use Rattle.session_rounds.proofs.OneTurn.{finished, undue, nowhere, aimed, own_first, own_second}
use Rattle.session_rounds.proofs.rounds.one_turn.Goals as goal

pub returns-then-not-is_look-clause-turns : goal.returns-then-not-is_look-clause-turns
returns-then-not-is_look-clause-turns g c =
    let none : is_look c.round-done.result.request ≡ false = first_of (cc, search rules) in
    finished c.args.session (scene (now_of g.S.Source.origin g.K.Sink.target g.T.Sink.target g.R.Source.origin c.args.live) (board_of g.M.Marks.front g.M.Marks.back c.args.marks.now) (g.H.HubPort.port c.args.hub.now) c.args.unbooked.now) _ _ _ _ c.round-done.ensures.runs c.round-done.ensures.tells c.round-done.ensures.keeps (own_first _ _ none)

pub returns-then-not-is_look-2-clause-turns : goal.returns-then-not-is_look-2-clause-turns
returns-then-not-is_look-2-clause-turns g c =
    let none : is_look c.round-done.result.response ≡ false = first_of (cc, search rules) in
    finished c.args.session (scene (now_of g.S.Source.origin g.K.Sink.target g.T.Sink.target g.R.Source.origin c.args.live) (board_of g.M.Marks.front g.M.Marks.back c.args.marks.now) (g.H.HubPort.port c.args.hub.now) c.args.unbooked.now) _ _ _ _ c.round-done.ensures.runs c.round-done.ensures.tells c.round-done.ensures.keeps (own_second _ _ none)

pub returns-then-not-is_due-clause-turns : goal.returns-then-not-is_due-clause-turns
returns-then-not-is_due-clause-turns g c =
    let one : is_look c.round-done.result.request ≡ true = first_of (cc, search rules) in
    let two : is_look c.round-done.result.response ≡ true = first_of (cc, search rules) in
    undue c.args.session (scene (now_of g.S.Source.origin g.K.Sink.target g.T.Sink.target g.R.Source.origin c.args.live) (board_of g.M.Marks.front g.M.Marks.back c.args.marks.now) (g.H.HubPort.port c.args.hub.now) c.args.unbooked.now) _ _ _ _ c.round-done.ensures.runs c.round-done.ensures.tells c.round-done.ensures.keeps one two c.is_due.result c.is_due.ensures (first_of (cc, search rules))

pub returns-in-Some-clause-turns : goal.returns-in-Some-clause-turns
returns-in-Some-clause-turns g c =
    let one : is_look c.round-done.result.request ≡ true = first_of (cc, search rules) in
    let two : is_look c.round-done.result.response ≡ true = first_of (cc, search rules) in
    aimed c.args.session (scene (now_of g.S.Source.origin g.K.Sink.target g.T.Sink.target g.R.Source.origin c.args.live) (board_of g.M.Marks.front g.M.Marks.back c.args.marks.now) (g.H.HubPort.port c.args.hub.now) c.args.unbooked.now) _ _ _ _ c.round-done.ensures.runs c.round-done.ensures.tells c.round-done.ensures.keeps one two c.is_due.result c.is_due.ensures (first_of (cc, search rules)) _ _ _ c.in-Some.ensures

pub returns-in-None-clause-turns : goal.returns-in-None-clause-turns
returns-in-None-clause-turns g c =
    let one : is_look c.round-done.result.request ≡ true = first_of (cc, search rules) in
    let two : is_look c.round-done.result.response ≡ true = first_of (cc, search rules) in
    nowhere c.args.session (scene (now_of g.S.Source.origin g.K.Sink.target g.T.Sink.target g.R.Source.origin c.args.live) (board_of g.M.Marks.front g.M.Marks.back c.args.marks.now) (g.H.HubPort.port c.args.hub.now) c.args.unbooked.now) _ _ _ _ c.round-done.ensures.runs c.round-done.ensures.tells c.round-done.ensures.keeps one two c.is_due.result c.is_due.ensures (first_of (cc, search rules)) _ _ c.in-None.ensures
