-- Pods, counted before one is read.
use Rattle.std.proofs.Common.{◌≡◌, ◌<◌, ◌≤◌, List, [], ◌∷◌, length, Some, Ok, Err, refl, lt-ltb, le-ltb, arith}
use Rattle.std.specs.Prelude.{codes}
use Rattle.toml.specs.View.{items_view}
use Rattle.toml.specs.declared.value.Value.{Value}
use Rattle.proxy_config.specs.declared.fault.SettingsFault.TheVariants.{OutOfRange}
use Rattle.proxy_config.specs.Reading.{entries}
use Rattle.proxy_config.specs.Sections.{Part, key_of, items}
use Rattle.proxy_config.specs.Settings.{count, pod_at, pods}

count_is : (vs : List Value) → count (items_view vs) ≡ length vs
count_is [] = refl
count_is (v ∷ vs) = omega (arith, count_is vs)

pub too_many : (p : Part) (vs : List Value) → items (codes "pod") p ≡ Ok (Some (items_view vs)) → 1000 < length vs → pods p ≡ Err (OutOfRange (key_of p (codes "pod")))
too_many p vs e lt = rw (e, count_is vs, lt-ltb 1000 (length vs) lt) refl

pub few : (p : Part) (vs : List Value) → items (codes "pod") p ≡ Ok (Some (items_view vs)) → length vs ≤ 1000 → pods p ≡ entries pod_at (key_of p (codes "pod")) [] (items_view vs)
few p vs e le = rw (e, count_is vs, le-ltb 1000 (length vs) le) refl
