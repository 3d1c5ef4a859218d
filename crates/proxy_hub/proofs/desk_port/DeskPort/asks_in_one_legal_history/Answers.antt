use Rattle.proxy_hub.proofs.Asking.{all_answered}
use Rattle.proxy_hub.proofs.desk_port.DeskPort.asks_in_one_legal_history.Goals as goal

pub returns-clause-answered : goal.returns-clause-answered
returns-clause-answered c = rw (← c.self.view_is) (all_answered _ _ c.has_seen_a_legal_history.ensures.answered)
