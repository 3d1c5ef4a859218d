-- One row that is told.
use Rattle.std.proofs.Common.{◌≡◌, true, false, List, [], ◌∷◌, Option, sym, ap, ◌∙◌, subst}
use Rattle.std.specs.Prelude.{Ok, Err}
use Rattle.proxy_outside.specs.declared.identity.SessionNo.{SessionNo}
use Rattle.proxy_outside.specs.declared.identity.TenantId.{TenantId}
use Rattle.proxy_hub.specs.Ports.{Port, Asks}
use Rattle.proxy_hub.specs.declared.command.HubCommand.{HubCommand}
use Rattle.proxy_hub.specs.declared.command.HubCommand.TheVariants.{Update}
use Rattle.proxy_hub.specs.declared.reply.HubReply.{HubReply}
use Rattle.proxy_hub.specs.declared.fault.HubFault.{HubFault}
use Rattle.tenant_directory.specs.Rows.{TenantPods}
use Rattle.pod_drain.specs.Watching.{with_tenant, is_done}
use Rattle.pod_drain.specs.Rounds.{scene, AskedAll, AskedSome}
use Rattle.pod_drain.specs.declared.fault.DrainFault.TheVariants.{Hub, NoMemory}
use Rattle.pod_drain.proofs.Follow.{grows_none}
use Rattle.pod_drain.proofs.Asking.{no_room, refused, one}
use Rattle.pod_drain.proofs.Undo.{taken_in, left_out}

pub no_room_same : (wanted : List HubCommand) (w u : List TenantId) (p : Port) (rs : Option (List SessionNo)) → u ≡ w → AskedSome wanted (scene w p rs) (scene u p rs) NoMemory
no_room_same wanted w u p rs same = subst (λ v. AskedSome wanted (scene w p rs) (scene v p rs) NoMemory) (sym same) (no_room wanted (scene w p rs))

pub refused_same : (wanted : List HubCommand) (c : HubCommand) (w u : List TenantId) (p q : Port) (rs : Option (List SessionNo)) (f : HubFault) → u ≡ w → Asks p q c (Err f) → AskedSome wanted (scene w p rs) (scene u q rs) (Hub f)
refused_same wanted c w u p q rs f same h = subst (λ v. AskedSome wanted (scene w p rs) (scene v q rs) (Hub f)) (sym same) (refused wanted c w p q rs f h)

pub row_taken : (w v : List TenantId) (p q : Port) (rs : Option (List SessionNo)) (row copy : TenantPods) (t : TenantId) (r : HubReply) → copy ≡ row → t ≡ row.tenant → Asks p q (Update copy) (Ok r) → is_done r ≡ true → v ≡ with_tenant t w
    → AskedAll {A = Unit {0}} (λ _ _. Unit {0}) (Update row ∷ []) (scene w p rs) (scene v q rs) tt
row_taken w v p q rs row copy t r same named h done e =
    one (λ _ _. Unit {0}) (Update row) r w v p q rs rs tt (subst (λ (x : TenantPods). Asks p q (Update x) (Ok r)) same h) (e ∙ ap (λ (x : TenantId). with_tenant x w) named ∙ taken_in w row r done) (grows_none rs) tt

pub row_left : (w u : List TenantId) (p q : Port) (rs : Option (List SessionNo)) (row copy : TenantPods) (r : HubReply) → copy ≡ row → Asks p q (Update copy) (Ok r) → is_done r ≡ false → u ≡ w
    → AskedAll {A = Unit {0}} (λ _ _. Unit {0}) (Update row ∷ []) (scene w p rs) (scene u q rs) tt
row_left w u p q rs row copy r same h other e =
    one (λ _ _. Unit {0}) (Update row) r w u p q rs rs tt (subst (λ (x : TenantPods). Asks p q (Update x) (Ok r)) same h) (e ∙ left_out w row r other) (grows_none rs) tt
