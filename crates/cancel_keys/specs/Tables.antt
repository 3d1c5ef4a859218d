-- The keys of all sessions, as a finite map.
use Rattle.std.specs.Prelude.{ℕ, Option, Some, None, if◌then◌else◌}
use Rattle.std.specs.FinMap as map
use Rattle.pgw_messages.specs.declared.pod_key.PodKey.{PodKey}
use Rattle.proxy_outside.specs.declared.addr.Addr.{Addr}
use Rattle.proxy_outside.specs.declared.identity.ClientKey.{ClientKey}
use Rattle.proxy_outside.specs.declared.identity.SessionNo.{SessionNo}
use Rattle.proxy_outside.specs.declared.place.Place.{Place}
use Rattle.proxy_outside.specs.Orders.{sessions}
use Rattle.cancel_keys.specs.declared.given.Given.{Given}
use Rattle.cancel_keys.specs.Given.{opens}

-- what the key that was given stands for, for a client that shows this secret from this address
abbrev pub target_by : Option Given → ℕ → Addr → Option (Place × PodKey)
target_by None secret addr = None
target_by (Some g) secret addr = if opens g secret addr then g.target else None

abbrev pub target_of : map.FinMap sessions Given → ClientKey → Addr → Option (Place × PodKey)
target_of keys key addr = target_by (map.get keys (record { 0 = key.process })) key.secret addr

-- the session's key, where it has one, stands for this target
abbrev pub bound_by : Option Given → map.FinMap sessions Given → SessionNo → Place × PodKey → map.FinMap sessions Given
bound_by None keys session target = keys
bound_by (Some g) keys session target = map.insert keys session (record g { target = Some target })

abbrev pub bound : map.FinMap sessions Given → SessionNo → Place × PodKey → map.FinMap sessions Given
bound keys session target = bound_by (map.get keys session) keys session target
