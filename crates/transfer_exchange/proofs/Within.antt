-- What is taken over stays within its limits, stage by stage.
use Rattle.std.proofs.Common.{◌≡◌, ℕ, ◌+◌, Bool, true, false, List, [], ◌∷◌, length, Option, Some, None, refl}
use Rattle.std.specs.Prelude.{◌==◌, nat_lt, not, ◌&&◌, is_some, if◌then◌else◌, codes}
use Rattle.std.specs.declared.result.Result.{Result}
use Rattle.std.specs.declared.result.Result.TheVariants.{Ok, Err}
use Rattle.std.specs.Str.{is_utf8}
use Rattle.std.proofs.lemmas.Bool.{and_parts, ltb-false, not-true}
use Rattle.base64.specs.GeneralPurpose.{decode_of}
use Rattle.base64.specs.Engines.{standard}
use Rattle.base64.specs.declared.decode.DecodeError.{DecodeError}
use Rattle.pgw_frames.specs.declared.frame.Frame.{Frame}
use Rattle.pgw_messages.specs.declared.params.Pair.{Pair}
use Rattle.pgw_messages.specs.declared.pod_key.PodKey.{PodKey}
use Rattle.session_model.specs.declared.transfer.TransferKey.{TransferKey}
use Rattle.transfer_stages.specs.Exchange.{packet, takes, said, given, without_error, by_error, has_key, is_base64, is_ready, is_ready_idle, is_tag, is_auth_ok, has_t, transfer_names, old_unexpected, new_unexpected, row_said, old_ends, keeps_key, greets}
use Rattle.transfer_stages.specs.Rows.{has_names, has_one_column, key_of, row_of}
use Rattle.transfer_stages.specs.declared.stage.Said.{Said}
use Rattle.transfer_stages.specs.declared.stage.Said.TheVariants.{Given, Refuses}
use Rattle.transfer_stages.specs.declared.stage.Stage.{Stage}
use Rattle.transfer_stages.specs.declared.stage.Stage.TheVariants as at
use Rattle.transfer_exchange.specs.Course.{IsWithin, HoldsSaid, HoldsState, HoldsToken}

-- ---- what the row says

abbrev HoldsIfSaid : List Pair → Option Said → Type 0
HoldsIfSaid p None = Unit {0}
HoldsIfSaid p (Some s) = HoldsSaid p s

fitting : (p : List Pair) (b token : List ℕ) (x : Bool) → (x && (not (nat_lt 1048576 (length b)) && not (nat_lt 11900000 (length (packet p token))))) ≡ true → HoldsState b × HoldsToken p token
fitting p b token x e =
    let short : Bool = not (nat_lt 1048576 (length b)) in
    let fits : Bool = not (nat_lt 11900000 (length (packet p token))) in
    let both = and_parts short fits (and_parts x (short && fits) e).1 in
    (ltb-false 1048576 (length b) (not-true (nat_lt 1048576 (length b)) both.0), ltb-false 11900000 (length (packet p token)) (not-true (nat_lt 11900000 (length (packet p token))) both.1))

given_by : (p : List Pair) (b token : List ℕ) (x t : Bool) → (x && (not (nat_lt 1048576 (length b)) && not (nat_lt 11900000 (length (packet p token))))) ≡ t → HoldsIfSaid p (if t then Some (Given b token) else None)
given_by p b token x true e = fitting p b token x e
given_by p b token x false e = tt

given_holds : (p : List Pair) (r : Result (List ℕ) DecodeError) (token : List ℕ) → HoldsIfSaid p (given p r token)
given_holds p (Err e) token = tt
given_holds p (Ok b) token =
    let x : Bool = is_base64 (decode_of standard token) in
    given_by p b token x (x && (not (nat_lt 1048576 (length b)) && not (nat_lt 11900000 (length (packet p token))))) refl

without_error_holds : (p : List Pair) (state token : Option (List ℕ)) → HoldsIfSaid p (without_error p state token)
without_error_holds p (Some state) (Some token) = given_holds p (decode_of standard state) token
without_error_holds p (Some state) None = tt
without_error_holds p None token = tt

refuses_holds : (p : List Pair) (reason : List ℕ) (t : Bool) → HoldsIfSaid p (if t then Some (Refuses reason) else None)
refuses_holds p reason true = tt
refuses_holds p reason false = tt

by_error_holds : (p : List Pair) (error state token : Option (List ℕ)) → HoldsIfSaid p (by_error p error state token)
by_error_holds p None state token = without_error_holds p state token
by_error_holds p (Some []) state token = without_error_holds p state token
by_error_holds p (Some (c ∷ cs)) state token = refuses_holds p (c ∷ cs) (is_utf8 (c ∷ cs))

keyed_holds : (p : List Pair) (s : Option Said) (t : Bool) → HoldsIfSaid p s → HoldsIfSaid p (if t then s else None)
keyed_holds p s true h = h
keyed_holds p s false h = tt

said_holds : (t : TransferKey) (p : List Pair) (row : Option (List (Option (List ℕ)))) → HoldsIfSaid p (said t p row)
said_holds t p (Some (error ∷ state ∷ token ∷ key ∷ [])) = keyed_holds p (by_error p error state token) (has_key t key) (by_error_holds p error state token)
said_holds t p (Some (error ∷ state ∷ token ∷ key ∷ more ∷ vs)) = tt
said_holds t p (Some (error ∷ state ∷ token ∷ [])) = tt
said_holds t p (Some (error ∷ state ∷ [])) = tt
said_holds t p (Some (error ∷ [])) = tt
said_holds t p (Some []) = tt
said_holds t p None = tt

-- ---- the frames

chosen : (p : List Pair) (t : Bool) (x y : Stage) → IsWithin p x → IsWithin p y → IsWithin p (if t then x else y)
chosen p true x y h g = h
chosen p false x y h g = g

row_holds : (p : List Pair) (f : Frame) (s : Option Said) → HoldsIfSaid p s → IsWithin p (row_said f s)
row_holds p f None h = tt
row_holds p f (Some s) h = h

ends_hold : (p : List Pair) (f : Frame) (s : Said) → HoldsSaid p s → IsWithin p (old_ends f s)
ends_hold p f (Given state token) h = chosen p (is_ready_idle f) (at.Dial state token) (old_unexpected f) h tt
ends_hold p f (Refuses reason) h = chosen p (is_ready f) (at.Ended _) (old_unexpected f) tt tt

key_holds : (p : List Pair) (state : List ℕ) (n : ℕ) (f : Frame) (key : Option PodKey) → HoldsState state → IsWithin p (keeps_key state n f key)
key_holds p state n f (Some key) h = tt
key_holds p state n f None h = chosen p (is_some (key_of f)) (at.NewStatus state n (key_of f)) (new_unexpected f) h tt

greets_hold : (p : List Pair) (state : List ℕ) (n : ℕ) (key : Option PodKey) (f : Frame) → HoldsState state → IsWithin p (greets state n key f)
greets_hold p state n key f h =
    chosen p ((f.tag == 83) && nat_lt n 1000) (at.NewStatus state (n + 1) key) _ h
    (chosen p (f.tag == 75) (keeps_key state n f key) _ (key_holds p state n f key h)
    (chosen p (is_ready_idle f) (at.Restore state key) (new_unexpected f) h tt))

pub takes_within : (t : TransferKey) (p : List Pair) (x : Stage) (f : Frame) → IsWithin p x → IsWithin p (takes t p x f)
unfolding takes
takes_within t p at.OldColumns f h = chosen p (has_names transfer_names f) at.OldRow (old_unexpected f) tt tt
takes_within t p at.OldRow f h = row_holds p f (said t p (row_of f)) (said_holds t p (row_of f))
takes_within t p (at.OldTag s) f h = chosen p (is_tag (codes "SHOW TRANSFER STATE 1") f) (at.OldReady s) (old_unexpected f) h tt
takes_within t p (at.OldReady s) f h = ends_hold p f s h
takes_within t p (at.NewAuth state) f h = chosen p (is_auth_ok f) (at.NewStatus state 0 None) (new_unexpected f) h tt
takes_within t p (at.NewStatus state n key) f h = greets_hold p state n key f h
takes_within t p (at.NewColumns key) f h = chosen p (has_one_column f) (at.NewRow key) (new_unexpected f) tt tt
takes_within t p (at.NewRow key) f h = chosen p (has_t (row_of f)) (at.NewTag key) (new_unexpected f) tt tt
takes_within t p (at.NewTag key) f h = chosen p (is_tag (codes "SELECT 1") f) (at.NewReady key) (new_unexpected f) tt tt
takes_within t p (at.NewReady key) f h = chosen p (is_ready_idle f) (at.Ended _) (new_unexpected f) tt tt
takes_within t p at.AskOld f h = h
takes_within t p (at.Dial state token) f h = h
takes_within t p (at.Packet state token) f h = h
takes_within t p (at.Restore state key) f h = h
takes_within t p (at.Ended o) f h = h
