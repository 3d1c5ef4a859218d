-- The part of an opening that is login (PostgreSQL manual, "Message Flow", Start-up): what stands before AuthenticationOk.
use Rattle.std.specs.Prelude.{ℕ, Bool, true, List, [], ◌∷◌, ◌==◌, ◌&&◌, length, false, ◌||◌, if◌then◌else◌, ◌++◌}
use Rattle.pgw_frames.specs.declared.frame.Frame.{Frame}
use Rattle.session_model.specs.Heard.{has_ready}
use Rattle.transfer_stages.specs.Exchange.{is_auth_ok}
use Rattle.pgw_frames.specs.Frames.{frames, rest, render}

abbrev pub has_ok : List Frame → Bool
has_ok [] = false
has_ok (f ∷ fs) = is_auth_ok f || has_ok fs

abbrev pub before_ok : List Frame → List Frame
before_ok [] = []
before_ok (f ∷ fs) = if is_auth_ok f then [] else f ∷ before_ok fs

-- all of it where neither an AuthenticationOk nor a ready came
abbrev pub login_of : List Frame → List Frame
login_of fs = if has_ok fs then before_ok fs else if has_ready fs then [] else fs

-- the bytes of an unfinished message belong to the login where it did not end
abbrev pub unfinished : List Frame → List ℕ → List ℕ
unfinished fs b = if has_ok fs || has_ready fs then [] else b

abbrev pub login_bytes : List ℕ → List ℕ
login_bytes b = render (login_of (frames b)) ++ unfinished (frames b) (rest b)
