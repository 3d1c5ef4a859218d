-- What the client was given, and what of a pod's bytes was held back.
use Rattle.std.specs.Prelude.{◌≡◌, ℕ, ◌≤◌, true, List, [], ◌++◌, length, ◌∷◌, map, ◌⊎◌, Option, Some, None, replicate}
use Rattle.pgw_frames.specs.Frames.{frames, render, Begins, frame_bytes}
use Rattle.pgw_frames.specs.declared.frame.Frame.{Frame}
use Rattle.proxy_outside.specs.declared.identity.ClientKey.{ClientKey}
use Rattle.session_model.specs.Heard.{with_key}
use Rattle.session_trace.specs.Trace.{all_relayed, Opening, Round}
use Rattle.session_trace.specs.Calls.{Call}
use Rattle.session_trace.specs.Journey.{keyed}

-- of what was got last and not relayed no whole message ends before the last 8,192 bytes
pub record IsHeld (c : Call) (held : List ℕ) : Type 0 where
  pub early : List ℕ
  pub late : List ℕ
  pub parts : held ≡ early ++ late
  pub few : length late ≤ 8192
  pub none_early : frames early ≡ []
  pub none_at_end : c.why.pod_ended ≡ true → frames held ≡ []

-- up to the end of an ErrorResponse
pub record UpToFault (key : ClientKey) (got body : List ℕ) : Type 0 where
  pub before : List Frame
  pub fault : Frame
  pub is_fault : fault.tag ≡ 69
  pub stand : Begins (before ++ fault ∷ []) (frames got)
  pub passed : body ≡ render (map (with_key key) (before ++ fault ∷ []))

-- what was passed on: the greeting, and then all that was relayed, whole where there is a round
abbrev pub Passes : Call → Opening → List Round → List ℕ → Type 0
Passes c first [] body = Begins body (keyed c.key first.got) × (c.why.auth_refused ≡ true → (c.client_faults ≡ true) ⊎ UpToFault c.key first.got body)
Passes c first (r ∷ rs) body = body ≡ keyed c.key first.got ++ all_relayed (r ∷ rs)

-- nothing of a greeting was passed on: the client got the rejection, or nothing where there is none
abbrev pub Rejects : Call → Option Frame → List ℕ → Type 0
Rejects c None body = body ≡ []
Rejects c (Some f) body = Begins body (frame_bytes f) × ((c.client_faults ≡ true) ⊎ (body ≡ frame_bytes f))

-- that is so only where there is no round
abbrev pub Rejected : Call → List Round → List ℕ → Type 0
Rejected c [] body = Rejects c c.why.rejection body
Rejected c (r ∷ rs) body = ⊥

-- one N for each refusal of encryption, and then one of these
pub record IsGiven (c : Call) (passes rejected : List ℕ → Type 0) : Type 0 where
  pub body : List ℕ
  pub is : c.given ≡ replicate c.says 78 ++ body
  pub either : passes body ⊎ rejected body
