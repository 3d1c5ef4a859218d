use Rattle.std.proofs.Common.{◌≡◌, ◌∙◌, ◌<◌, ◌≤◌, ◌++◌, length, arith}
use Rattle.std.proofs.lemmas.List.{length-append}
use Rattle.startup_route.specs.Entrances.{wanted}
use Rattle.startup_route.proofs.EntranceLemmas.{wanting_door, fed_more}
use Rattle.startup_route.proofs.door.Door.feed.Goals as goal

pub step_behind-requires-clause-most : goal.step_behind-requires-clause-most
step_behind-requires-clause-most c =
    let some : 0 < wanted c.self.inside.fed.items = rw c.self.view_is (omega (arith, c.requires.some, c.requires.within)) in
    (wanting_door c.self.inside.says c.self.inside.over c.self.inside.fed.items c.self.invariant some).most

pub step_behind-requires-clause-within : goal.step_behind-requires-clause-within
step_behind-requires-clause-within c =
    let some : 0 < wanted c.self.inside.fed.items = rw c.self.view_is (omega (arith, c.requires.some, c.requires.within)) in
    let door = wanting_door c.self.inside.says c.self.inside.over c.self.inside.fed.items c.self.invariant some in
    rw (c.as_slice.ensures.value, c.in_ok-extend_from_slice.ensures.items) (omega (arith, door.within, length-append c.self.inside.fed.items c.args.piece.now))

pub counted-self-inside-requires : goal.counted-self-inside-requires
counted-self-inside-requires c =
    let some : 0 < wanted c.self.inside.fed.items = rw c.self.view_is (omega (arith, c.requires.some, c.requires.within)) in
    (wanting_door c.self.inside.says c.self.inside.over c.self.inside.fed.items c.self.invariant some).most

pub invariant_of-self-in-Ok : goal.invariant_of-self-in-Ok
invariant_of-self-in-Ok c =
    let within : length c.args.piece.now ≤ wanted c.self.inside.fed.items = rw c.self.view_is c.requires.within in
    let all : c.as_slice.result.now ≡ c.self.inside.fed.items ++ c.args.piece.now = c.as_slice.ensures.value ∙ c.in_ok-extend_from_slice.ensures.items in
    let more = fed_more c.self.inside.says c.self.inside.over c.self.inside.fed.items c.args.piece.now c.as_slice.result.now c.in-Ok.step c.self.invariant c.requires.some within all c.in-Ok.ensures in
    rw (c.counted-self-inside.ensures, c.goes_on.ensures, ← c.as_slice.ensures.value) more.knows

pub returns-in-Ok-clause-step : goal.returns-in-Ok-clause-step
returns-in-Ok-clause-step c =
    let within : length c.args.piece.now ≤ wanted c.self.inside.fed.items = rw c.self.view_is c.requires.within in
    let all : c.as_slice.result.now ≡ c.self.inside.fed.items ++ c.args.piece.now = c.as_slice.ensures.value ∙ c.in_ok-extend_from_slice.ensures.items in
    let more = fed_more c.self.inside.says c.self.inside.over c.self.inside.fed.items c.args.piece.now c.as_slice.result.now c.in-Ok.step c.self.invariant c.requires.some within all c.in-Ok.ensures in
    rw (← c.self.view_is) more.answer
