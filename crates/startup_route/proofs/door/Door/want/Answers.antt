use Rattle.std.proofs.Common.{false}
use Rattle.startup_route.specs.Doors.{Knows}
use Rattle.startup_route.proofs.EntranceLemmas.{open_door}
use Rattle.startup_route.proofs.door.Door.want.Goals as goal

pub behind-requires : goal.behind-requires
behind-requires c =
    let knows : Knows c.self.inside.says false c.self.inside.fed.items = rw (← c.if-self.false) c.self.invariant in
    rw c.as_slice.ensures.value (open_door c.self.inside.says c.self.inside.fed.items knows).within
