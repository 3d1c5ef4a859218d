use Rattle.std.proofs.Common.{◌≡◌, ◌==◌, ◌+◌, ◌-◌, ◌^◌, ◌<◌, ℕ, Bool, false, None, if◌then◌else◌, List, [], ◌∷◌, ◌++◌, Option, refl, sym, ap, ◌∙◌, arith}
use Rattle.std.specs.Map.{lookup}
use Rattle.std.specs.BTreeMap.{is_at}
use Rattle.proxy_outside.specs.declared.identity.SessionNo.{SessionNo}
use Rattle.proxy_outside.specs.declared.identity.TenantId.{TenantId}
use Rattle.session_roster.specs.Rosters.{Roll, Live, enrolled}
use Rattle.session_roster.specs.Rows.{Parts, StandsFor, sessions}
use Rattle.session_roster.proofs.OneRoll.{stands_now, is_whole, is_roll, is_roll_of}
use Rattle.session_roster.proofs.Standing.{added_stands, taken_back_stands}
use Rattle.session_roster.proofs.roster.Roster.enrol.Goals as goal

-- ---- no memory

err_stands : (c : goal.After-from) → StandsFor (record { tenants = c.insert-2.new.self; members = c.remove.new.self; counts = c.self.inside.counts; last = c.self.inside.last }) c.args.self.now.live
err_stands c =
    let old : Parts = record { tenants = c.self.inside.tenants; members = c.self.inside.members; counts = c.self.inside.counts; last = c.self.inside.last } in
    let new : Parts = record { tenants = c.insert-2.new.self; members = c.remove.new.self; counts = c.self.inside.counts; last = c.self.inside.last } in
    let same = ap {B = SessionNo → Option TenantId} (λ (es : List (SessionNo × TenantId)) (k : SessionNo). lookup (is_at (sessions k)) es) c.in-Err.ensures.err in
    taken_back_stands old new c.insert.new.self c.args.tenant (record { 0 = c.in-Some.number }) c.args.self.now.live (grind (arith, c.in-Some.is, c.checked_add.ensures)) same
    (λ q. c.in_ok-insert.ensures.updates.0 q) (λ q. c.remove.ensures.updates.0 q) refl refl (stands_now old c.args.self.now c.self.view_is c.self.invariant)

pub invariant_of-self-in-Err : goal.invariant_of-self-in-Err
invariant_of-self-in-Err c = is_whole _ c.args.self.now.live c.in-Err.ensures.ordered c.self.invariant.small (err_stands c)

pub returns-in-Err-clause-err : goal.returns-in-Err-clause-err
returns-in-Err-clause-err c = is_roll_of _ c.args.self.now c.args.self.now.live (ap (λ (k : Roll). k.last) c.self.view_is) c.in-Err.ensures.ordered (err_stands c)

-- ---- one more

number_is : (c : goal.After-self-1) → c.in-Some.number ≡ c.self.inside.last + 1
number_is c = grind (arith, c.in-Some.is, c.checked_add.ensures)

fits : (c : goal.After-self-1) → c.in-Some.number < 2 ^ 32
fits c = grind (arith, c.in-Some.is, c.checked_add.ensures)

abbrev added : goal.After-self-1 → Live
added c = record { session = record { 0 = c.in-Some.number }; tenant = c.args.tenant; pod = None }

ok_stands : (c : goal.After-self-1) → StandsFor (record { tenants = c.insert-2.new.self; members = c.insert.new.self; counts = c.self.inside.counts; last = c.in-Some.number }) (c.args.self.now.live ++ added c ∷ [])
ok_stands c =
    let old : Parts = record { tenants = c.self.inside.tenants; members = c.self.inside.members; counts = c.self.inside.counts; last = c.self.inside.last } in
    let new : Parts = record { tenants = c.insert-2.new.self; members = c.insert.new.self; counts = c.self.inside.counts; last = c.in-Some.number } in
    added_stands old new c.args.tenant (added c) c.args.self.now.live (number_is c) refl refl (number_is c)
    (λ q. c.in_default-insert.ensures.updates.0 q) (λ q. c.in_ok-insert.ensures.updates.0 q) refl
    (stands_now old c.args.self.now c.self.view_is c.self.invariant)

pub invariant_of-self-2 : goal.invariant_of-self-2
invariant_of-self-2 c = is_whole _ (c.args.self.now.live ++ added c ∷ []) c.in_default-insert.ensures.ordered (fits c) (ok_stands c)

-- as the definition has it
enrols : (now : Roll) (t : TenantId) (n : ℕ) → n ≡ now.last + 1 → n < 2 ^ 32
    → record { live = now.live ++ record { session = record { 0 = n }; tenant = t; pod = None } ∷ []; last = n } ≡ (if now.last == 2 ^ 32 - 1 then now else enrolled t now)
enrols now t n is small =
    let room : (now.last == 2 ^ 32 - 1) ≡ false = grind (arith) in
    (λ i. record { live = now.live ++ record { session = record { 0 = is i }; tenant = t; pod = None } ∷ []; last = is i }) ∙ ap (λ (b : Bool). if b then now else enrolled t now) (sym room)

pub returns-clause-ok : goal.returns-clause-ok
returns-clause-ok c =
    is_roll _ (c.args.self.now.live ++ added c ∷ []) c.in_default-insert.ensures.ordered (ok_stands c)
    ∙ enrols c.args.self.now c.args.tenant c.in-Some.number (number_is c ∙ ap (λ (n : ℕ). n + 1) (ap (λ (k : Roll). k.last) c.self.view_is)) (fits c)
