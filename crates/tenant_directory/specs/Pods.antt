-- Lists of pods, and the numbers in them.
use Rattle.std.specs.Prelude.{◌≡◌, ℕ, ◌<◌, ◌≤◌, ◌-◌, ◌^◌, min, List, length, Option, Some, None, slice_get}
use Rattle.std.specs.Option.{option_map}
use Rattle.proxy_outside.specs.declared.identity.PodNo.{PodNo}
use Rattle.tenant_directory.specs.declared.pod.Pod.{Pod}

-- the number of the pod at this place
abbrev pub number_at : List Pod → ℕ → Option PodNo
number_at pods k = option_map (λ (p : Pod). p.place.pod) (slice_get pods k)

-- a number stands at one place at most
abbrev pub DifferInNumbers : List Pod → Type 0
DifferInNumbers pods = (i j : ℕ) (n : PodNo) → number_at pods i ≡ Some n → number_at pods j ≡ Some n → i ≡ j

-- the number stands at this place, and at an earlier one too
pub record IsAgainAt (pods : List Pod) (k : ℕ) (n : PodNo) : Type 0 where
  pub before : ℕ
  pub earlier : before < k
  pub there : number_at pods before ≡ Some n
  pub here : number_at pods k ≡ Some n

-- no place before this one has a number that stands at an earlier place too
pub record IsFirstTwice (pods : List Pod) (n : PodNo) : Type 0 where
  pub place : ℕ
  pub again : IsAgainAt pods place n
  pub least : (k : ℕ) (m : PodNo) → IsAgainAt pods k m → place ≤ k

abbrev pub TellsTwice : List Pod → Option PodNo → Type 0
TellsTwice pods None = DifferInNumbers pods
TellsTwice pods (Some n) = IsFirstTwice pods n

-- pods that make a row
pub record IsFit (pods : List Pod) : Type 0 where
  pub few : length pods ≤ 1000
  pub differ : DifferInNumbers pods

-- as it is told
abbrev pub counted : ℕ → ℕ
counted n = min n (2 ^ 32 - 1)
