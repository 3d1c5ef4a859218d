use Rattle.std.proofs.Common.{◌≡◌, ◌∙◌, sym, ap, false}
use Rattle.std.specs.Prelude.{not}
use Rattle.forwarder_core.proofs.Linking.{has_some, has_none, turn_begins, turn_hears}
use Rattle.forwarder_core.proofs.link.Link.take_turn.Goals as goal

pub returns-then-is_none-clause-link : goal.returns-then-is_none-clause-link
returns-then-is_none-clause-link g c m held t h st =
    let uncut : m.cut ≡ false = sym h.cut ∙ c.if-self.false in
    let none = has_none g.S.Session.state c.args.self.now.session m.session (c.is_none.ensures ∙ ap not c.if-is_none.true) h.session in
    rw (turn_begins g.S.Session.kind g.S.Store.Machine.rules m t c.args.startup.now uncut none) (c.in_ok-begin.ensures m held h)

pub returns-then-is_none-clause-store : goal.returns-then-is_none-clause-store
returns-then-is_none-clause-store g c m held t h st =
    let uncut : m.cut ≡ false = sym h.cut ∙ c.if-self.false in
    let none = has_none g.S.Session.state c.args.self.now.session m.session (c.is_none.ensures ∙ ap not c.if-is_none.true) h.session in
    rw (turn_begins g.S.Session.kind g.S.Store.Machine.rules m t c.args.startup.now uncut none) st

pub returns-clause-link : goal.returns-clause-link
returns-clause-link g c m held t h st =
    let uncut : m.cut ≡ false = sym h.cut ∙ c.if-self.false in
    let some = has_some g.S.Session.state c.args.self.now.session m.session (c.is_none.ensures ∙ ap not c.if-is_none.false) h.session in
    rw (turn_hears g.S.Session.kind g.S.Store.Machine.rules m t c.args.startup.now some.0 uncut some.1) (c.in_ok-hear.ensures.link m held t h st)

pub returns-clause-store : goal.returns-clause-store
returns-clause-store g c m held t h st =
    let uncut : m.cut ≡ false = sym h.cut ∙ c.if-self.false in
    let some = has_some g.S.Session.state c.args.self.now.session m.session (c.is_none.ensures ∙ ap not c.if-is_none.false) h.session in
    rw (turn_hears g.S.Session.kind g.S.Store.Machine.rules m t c.args.startup.now some.0 uncut some.1) (c.in_ok-hear.ensures.store m held t h st)
