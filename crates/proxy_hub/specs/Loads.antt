-- What the hub's parts say of pods and homes.
use Rattle.std.specs.Prelude.{Option, Some, None}
use Rattle.std.specs.FinMap as map
use Rattle.pod_balancer.specs.declared.load.Load.{Load}
use Rattle.session_roster.specs.Rosters.{Roll, count_of}
use Rattle.tenant_directory.specs.declared.pod.Pod.{Pod}
use Rattle.tenant_directory.specs.declared.directory.Home.{Home}
use Rattle.proxy_outside.specs.Orders.{sessions}
use Rattle.proxy_outside.specs.declared.identity.SessionNo.{SessionNo}
use Rattle.proxy_outside.specs.declared.identity.TenantId.{TenantId}
use Rattle.proxy_outside.specs.declared.place.Place.{Place}
use Rattle.proxy_hub.specs.Steps.{is_running}

-- a pod with the sessions that the roster counts at it
abbrev pub load_in : Roll → TenantId → Pod → Load
load_in r tenant p = record { pod = p.place.pod; running = is_running p.state; sessions = count_of tenant p.place.pod r.live }

-- a session has the home of before, or none
abbrev pub put_back : map.FinMap sessions Home → SessionNo → TenantId → Option Place → map.FinMap sessions Home
put_back homes n tenant None = map.remove homes n
put_back homes n tenant (Some place) = map.insert homes n (record { tenant = tenant; place = place })
