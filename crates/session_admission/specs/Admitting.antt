-- What a client is asked for at the hub before a pod is picked.
use Rattle.std.specs.Prelude.{◌≡◌, ◌⊎◌, ℕ, List, [], ◌∷◌, Option, Some, None, Result, Ok, Err}
use Rattle.cancel_keys.specs.Given.{key_of}
use Rattle.proxy_outside.specs.declared.addr.Addr.{Addr}
use Rattle.proxy_outside.specs.declared.identity.ClientKey.{ClientKey}
use Rattle.proxy_outside.specs.declared.identity.SessionNo.{SessionNo}
use Rattle.proxy_outside.specs.declared.identity.TenantId.{TenantId}
use Rattle.proxy_links.specs.Told.{Grows}
use Rattle.proxy_hub.specs.Ports.{Port, Tells}
use Rattle.proxy_hub.specs.declared.command.HubCommand.TheVariants.{Admit, GiveKey}
use Rattle.proxy_hub.specs.declared.fault.HubFault.{HubFault}
use Rattle.proxy_hub.specs.declared.reply.HubReply.TheVariants as say
use Rattle.session_asks.specs.Asks.{ask}
use Rattle.session_admission.specs.Asking.{AsksOn}
use Rattle.session_admission.specs.declared.admission.Admission.{Admission}
use Rattle.session_admission.specs.declared.admission.Admission.TheVariants.{Admitted, Refused, Fault}

abbrev pub AdmitsAt : Addr → TenantId → ℕ → Port → Port → Admission → Type 0
AdmitsAt peer tenant now old new (Admitted n) = AsksOn old new (ask (Admit peer tenant now) (Some (say.Admitted n)) ∷ [])
AdmitsAt peer tenant now old new (Refused why) = AsksOn old new (ask (Admit peer tenant now) (Some (say.No why)) ∷ [])
AdmitsAt peer tenant now old new (Fault f) = AsksOn old new (ask (Admit peer tenant now) None ∷ []) × Tells f old.desk.most

-- at a moment that the clock gave
pub record Admits (peer : Addr) (tenant : TenantId) (old new : Port) (given given' : Option (List ℕ)) (a : Admission) : Type 0 where
  pub now : ℕ
  pub moment : Grows given given' (now ∷ [])
  pub asked : AdmitsAt peer tenant now old new a

abbrev pub GivesKeyBy : SessionNo → Addr → ℕ → Port → Port → Result ClientKey HubFault → Type 0
GivesKeyBy n peer word old new (Ok key) =
    AsksOn old new (ask (GiveKey n peer word) (Some (say.Key key)) ∷ [])
    ⊎ ((key ≡ key_of n word) × AsksOn old new (ask (GiveKey n peer word) (Some say.NoSession) ∷ []))
GivesKeyBy n peer word old new (Err f) = AsksOn old new (ask (GiveKey n peer word) None ∷ []) × Tells f old.desk.most

-- with a word that was drawn
pub record GivesKey (n : SessionNo) (peer : Addr) (old new : Port) (given given' : Option (List ℕ)) (r : Result ClientKey HubFault) : Type 0 where
  pub word : ℕ
  pub drawn : Grows given given' (word ∷ [])
  pub asked : GivesKeyBy n peer word old new r
