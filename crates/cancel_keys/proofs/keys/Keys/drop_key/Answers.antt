use Rattle.cancel_keys.proofs.Changes.{key_removed}
use Rattle.cancel_keys.proofs.keys.Keys.drop_key.Goals as goal

pub returns : goal.returns
returns c = key_removed _ c.self.inside.given c.remove.new.self c.args.session c.self.view_is c.remove.ensures.updates
