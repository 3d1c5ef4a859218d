-- What a check prints.
use Rattle.std.specs.Prelude.{◌≡◌, ℕ, ◌+◌, List, [], ◌∷◌, ◌++◌, length, codes}
use Rattle.std.specs.Fmt.{decimal}
use Rattle.tenant_directory.specs.Rows.{TenantPods}
use Rattle.proxy_config.specs.declared.settings.Settings.{Settings}
use Rattle.settings_check.specs.declared.question.Question.{Question}
use Rattle.settings_check.specs.declared.question.Question.TheVariants.{Counts, Admission}
use Rattle.settings_check.specs.declared.trial.Trial.{Trial}
use Rattle.settings_check.specs.declared.trial.Trial.TheVariants.{Pass, Denied, NotAllowed, NoTenant, NoPod}
use Rattle.settings_check.specs.Trials.{IsTrialOf}

-- the pods of all tenants
unfoldable pub pods_of : List TenantPods → ℕ
pods_of [] = 0
pods_of (row ∷ rows) = length row.pods + pods_of rows

abbrev pub counts_line : Settings → List ℕ
counts_line s = codes "tenants " ++ decimal (length s.tenants) ++ codes " pods " ++ decimal (pods_of s.tenants)
    ++ codes " deny " ++ decimal (length s.deny) ++ codes " allow " ++ decimal (length s.allow) ++ codes "\n"

abbrev pub trial_line : Trial → List ℕ
trial_line Pass = codes "admit pass\n"
trial_line (Denied place) = codes "admit denied " ++ decimal place ++ codes "\n"
trial_line NotAllowed = codes "admit not-allowed\n"
trial_line NoTenant = codes "admit no-tenant\n"
trial_line NoPod = codes "admit no-pod\n"

-- these bytes answer the question
abbrev pub IsAnswer : Settings → Question → List ℕ → Type 0
IsAnswer s Counts bytes = bytes ≡ counts_line s
IsAnswer s (Admission client) bytes = (t : Trial) × IsTrialOf s client t × (bytes ≡ counts_line s ++ trial_line t)
