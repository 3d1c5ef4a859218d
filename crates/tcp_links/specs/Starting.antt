-- A job that is started, or handed back.
use Rattle.std.specs.Prelude.{◌≡◌}
use Rattle.proxy_links.specs.declared.spawner.Started.{Started as Answer}
use Rattle.proxy_links.specs.declared.spawner.Started.TheVariants.{Started, Failed}

abbrev pub GivesBack : {J : Type 0} → Answer J → J → Type 0
GivesBack Started job = Unit {0}
GivesBack (Failed back) job = back ≡ job
