-- Each reply of the hub is of a kind that its command may have.
use Rattle.std.proofs.Common.{Bool, true, false, if◌then◌else◌, List, Option, Some, None}
use Rattle.std.specs.Prelude.{is_some, find}
use Rattle.tenant_directory.specs.declared.directory.Applied.{Applied}
use Rattle.tenant_directory.specs.declared.directory.Applied.TheVariants as applied
use Rattle.tenant_directory.specs.declared.pod.Pod.{Pod}
use Rattle.tenant_directory.specs.Newest.{pods_of, answer_to, newest, rows_of}
use Rattle.pod_balancer.specs.declared.moves.Move.{Move}
use Rattle.pgw_messages.specs.declared.pod_key.PodKey.{PodKey}
use Rattle.cancel_keys.specs.Given.{key_of}
use Rattle.cancel_keys.specs.Tables.{target_of}
use Rattle.proxy_outside.specs.declared.identity.ClientKey.{ClientKey}
use Rattle.proxy_outside.specs.declared.identity.PodNo.{PodNo}
use Rattle.proxy_outside.specs.declared.identity.SessionNo.{SessionNo}
use Rattle.proxy_outside.specs.declared.identity.TenantId.{TenantId}
use Rattle.proxy_outside.specs.declared.place.Place.{Place}
use Rattle.proxy_hub.specs.declared.command.HubCommand.{HubCommand}
use Rattle.proxy_hub.specs.declared.command.HubCommand.TheVariants.{SetLists, Update, Admit, GiveKey, Pick, Assign, Bind, Report, Target, Plan, Find, Release}
use Rattle.proxy_hub.specs.declared.reply.HubReply.TheVariants as say
use Rattle.proxy_hub.specs.declared.reply.Refusal.{Refusal}
use Rattle.proxy_hub.specs.States.{State, tenant_of}
use Rattle.proxy_hub.specs.Steps.{reply, applied_as, admission, refusal_of, picked, pick_for, heading, target_by, target_for, plan_for, place_of, is_of, found, binding}
use Rattle.proxy_hub.specs.Ports.{Suits, IsApplied, IsAdmission, IsPick, IsTarget, IsFind, IsDoneOrNoSession, IsKey}

applied_suits : (a : Applied) → IsApplied (applied_as a)
applied_suits applied.Done = tt
applied_suits (applied.Stale version) = tt

admission_suits : (s : State) (o : Option Refusal) → IsAdmission (admission s o)
admission_suits s None = tt
admission_suits s (Some why) = tt

picked_suits : (o : Option Place) → IsPick (picked o)
picked_suits None = tt
picked_suits (Some place) = tt

pick_suits : (s : State) (t : TenantId) (first second : Option PodNo) (o : Option (List Pod)) → IsPick (pick_for s t first second o)
pick_suits s t first second None = tt
pick_suits s t first second (Some pods) = picked_suits _

heading_suits : (o : Option Place) → IsTarget (heading o)
heading_suits None = tt
heading_suits (Some place) = tt

target_by_suits : (o : Option Move) (pods : Option (List Pod)) → IsTarget (target_by o pods)
target_by_suits None pods = tt
target_by_suits (Some m) None = tt
target_by_suits (Some m) (Some pods) = heading_suits (place_of pods m.to)

target_suits : (s : State) (n : SessionNo) (o : Option TenantId) → IsTarget (target_for s n o)
target_suits s n None = tt
target_suits s n (Some t) = target_by_suits (find (is_of n) (plan_for s t)) (pods_of s.rows t)

found_suits : (o : Option (Place × PodKey)) → IsFind (found o)
found_suits None = tt
found_suits (Some target) = tt

done_suits : (b : Bool) → IsDoneOrNoSession (if b then say.Done else say.NoSession)
done_suits true = tt
done_suits false = tt

key_suits : (b : Bool) (key : ClientKey) → IsKey (if b then say.Key key else say.NoSession)
key_suits true key = tt
key_suits false key = tt

pub suits : (s : State) (c : HubCommand) → Suits c (reply s c)
suits s (SetLists lists) = tt
suits s (Update row) = applied_suits (answer_to (newest (rows_of row.tenant s.rows)) row)
suits s (Admit addr tenant now) = admission_suits s (refusal_of s addr tenant now)
suits s (GiveKey n addr word) = key_suits (is_some (tenant_of s n)) (key_of n word)
suits s (Pick tenant first second) = pick_suits s tenant first second (pods_of s.rows tenant)
suits s (Assign n place) = done_suits (is_some (tenant_of s n))
suits s (Bind n key) = done_suits (is_some (binding s n))
suits s (Report addr tenant ok now) = tt
suits s (Target n) = target_suits s n (tenant_of s n)
suits s (Plan tenant) = tt
suits s (Find key addr) = found_suits (target_of s.keys key addr)
suits s (Release n) = done_suits (is_some (tenant_of s n))
