use Rattle.proxy_session.proofs.Served.{entered_so}
use Rattle.proxy_session.proofs.session.proxy_session.Goals as goal

pub serve-requires-clause-fits : goal.serve-requires-clause-fits
serve-requires-clause-fits g c k l = (entered_so _ _ _ _ _ _ _ _ _ _ _ _ c.receive.result c.in-Session.is c.receive.ensures).fits

pub serve-requires-clause-plain : goal.serve-requires-clause-plain
serve-requires-clause-plain g c k l = (entered_so _ _ _ _ _ _ _ _ _ _ _ _ c.receive.result c.in-Session.is c.receive.ensures).plain
