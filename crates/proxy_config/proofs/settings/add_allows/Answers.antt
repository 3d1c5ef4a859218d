use Rattle.std.proofs.Common.{ap, ◌∙◌}
use Rattle.access_lists.specs.Verdicts.{Entries}
use Rattle.proxy_config.proofs.Allowed.{one_more}
use Rattle.proxy_config.proofs.settings.add_allows.Goals as goal

pub loop-allow-preserved : goal.loop-allow-preserved
loop-allow-preserved c = record {
  denies = ap (λ (l : Entries). l.denies) c.in_ok-add_allow.ensures ∙ c.loop-allow.invariant.denies;
  allows = one_more c.args.allows.now c.loop-allow.allow-index c.allow-item.result c.loop-allow.lists.allows c.add_allow.new.lists.allows _ c.loop-allow-test.true c.allow-item.is (ap (λ (l : Entries). l.allows) c.in_ok-add_allow.ensures) c.loop-allow.invariant.allows;
}
