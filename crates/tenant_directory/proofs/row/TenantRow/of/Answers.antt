use Rattle.std.proofs.Common.{◌≡◌, Result, Err, Option, subst}
use Rattle.proxy_outside.specs.declared.identity.PodNo.{PodNo}
use Rattle.tenant_directory.specs.declared.fault.RowFault.{RowFault}
use Rattle.tenant_directory.specs.declared.fault.RowFault.TheVariants.{TwicePod}
use Rattle.tenant_directory.specs.Pods.{IsFirstTwice, TellsTwice}
use Rattle.tenant_directory.proofs.Watching.{one_first}
use Rattle.tenant_directory.proofs.row.TenantRow.of.Goals as goal

same_fault : {T : Type 0} (m n : PodNo) → ◌≡◌ {A = Result T RowFault} (Err (TwicePod m)) (Err (TwicePod n)) → m ≡ n
same_fault m n e = cc

pub returns-in-Some-clause-twice : goal.returns-in-Some-clause-twice
returns-in-Some-clause-twice c =
    let P : Option PodNo → Type 0 = TellsTwice c.args.pods.now in
    let told : IsFirstTwice c.args.pods.now c.in-Some.pod = subst P c.in-Some.is c.in_ok-pod.ensures in
    λ n _. (λ e. (c.if-pods-gt-MOST_PODS.false, subst (IsFirstTwice c.args.pods.now) (same_fault c.in-Some.pod n e) told), λ h. λ i. Err (TwicePod (one_first c.args.pods.now c.in-Some.pod n told h.1 i)))
