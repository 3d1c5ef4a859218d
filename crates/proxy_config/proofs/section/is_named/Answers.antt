use Rattle.std.proofs.Common.{◌∙◌}
use Rattle.std.specs.Str.{bytes_eq}
use Rattle.proxy_config.proofs.Names.{any_map}
use Rattle.proxy_config.proofs.section.is_named.Goals as goal

pub returns : goal.returns
returns c = c.is_among.ensures ∙ any_map (bytes_eq c.args.name.now) (λ n. n.now) c.args.names.now
