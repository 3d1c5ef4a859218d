-- The key of what a new pod gave is read from all its messages.
use Rattle.std.proofs.Common.{◌≡◌, ℕ, Bool, true, false, List, [], ◌∷◌, ◌++◌, Option, None, Result, Ok, Err, refl, sym, ap, subst, ◌∙◌, append-nil}
use Rattle.std.specs.Prelude.{◌==◌, ◌&&◌, if◌then◌else◌}
use Rattle.std.specs.Int.{w32}
use Rattle.std.specs.List.{flat_map}
use Rattle.std.specs.Option.{option_to_list}
use Rattle.std.specs.Result.{result_ok}
use Rattle.std.proofs.lemmas.Bool.{and_parts, eqb-true}
use Rattle.std.proofs.lemmas.Grind.{flat_map-append}
use Rattle.pgw_frames.specs.declared.frame.Frame.{Frame}
use Rattle.pgw_messages.specs.Backend.{auth_at, key_at, ready_at, column_at, notify_at, copy_at, back_at, back_of}
use Rattle.pgw_messages.specs.Fields.{fields_at}
use Rattle.pgw_messages.specs.Reading.{Read, ◌>>=◌, mapped, whole, ended, list_at, value_at, text_at, number_at}
use Rattle.pgw_messages.specs.Startup.{pair_at}
use Rattle.pgw_messages.specs.declared.backend.message.BackMsg.{BackMsg}
use Rattle.pgw_messages.specs.declared.backend.message.BackMsg.TheVariants as back
use Rattle.pgw_messages.specs.declared.fault.MsgFault.{MsgFault}
use Rattle.pgw_messages.specs.declared.pod_key.PodKey.{PodKey}
use Rattle.session_asks.specs.Greetings.{key_in, key_read}
use Rattle.transfer_stages.specs.Accepts.{AcceptsGreeting, AcceptsRestored, AcceptsNew, keys_in}
use Rattle.transfer_stages.specs.Exchange.{has_code_0, has_t, is_auth_ok}
use Rattle.transfer_stages.specs.Rows.{key_of, auth_of, row_of, columns_of, is_one, has_one_column}

-- ---- one message

key_ended : (key : PodKey) (e : Result (Unit {0}) MsgFault) → key_read (e >>= λ nothing. Ok (back.Key key)) ≡ option_to_list (result_ok (e >>= λ nothing. Ok key))
key_ended key (Ok u) = refl
key_ended key (Err e) = refl

key_whole : (r : Read PodKey) → key_read (whole (mapped back.Key r)) ≡ option_to_list (result_ok (whole r))
key_whole (Ok (key, left)) = key_ended key (ended left)
key_whole (Err e) = refl

abbrev HasNone : Read BackMsg → Type 0
HasNone r = key_read (whole r) ≡ []

none_ended : (m : BackMsg) (e : Result (Unit {0}) MsgFault) → key_in m ≡ [] → key_read (e >>= λ nothing. Ok m) ≡ []
none_ended m (Ok u) h = h
none_ended m (Err e) h = refl

-- a message of another type
none_in : {A : Type 0} (m : A → BackMsg) (r : Read A) → ((x : A) → key_in (m x) ≡ []) → HasNone (mapped m r)
none_in m (Ok (x, left)) h = none_ended (m x) (ended left) (h x)
none_in m (Err e) h = refl

none_if : (b : Bool) (x y : Read BackMsg) → HasNone x → HasNone y → HasNone (if b then x else y)
none_if true x y h k = h
none_if false x y h k = k

none_else : (b : Bool) (x y : Read BackMsg) → b ≡ false → HasNone y → HasNone (if b then x else y)
none_else true x y e h = absurd cc
none_else false x y e h = h

bare : (m : BackMsg) (body : List ℕ) → key_in m ≡ [] → HasNone (Ok (m, body))
bare m body h = none_ended m (ended body) h

other_type : (t : ℕ) (b : List ℕ) → (t == 75) ≡ false → HasNone (back_at t b)
other_type t b e =
    none_if (t == 82) _ _ (none_in back.Auth (auth_at b) (λ x. refl))
    (none_if (t == 83) _ _ (none_in back.Status (pair_at b) (λ x. refl))
    (none_else (t == 75) _ _ e
    (none_if (t == 90) _ _ (none_in back.Ready (ready_at b) (λ x. refl))
    (none_if (t == 84) _ _ (none_in back.Columns (list_at column_at b) (λ x. refl))
    (none_if (t == 68) _ _ (none_in back.Row (list_at value_at b) (λ x. refl))
    (none_if (t == 67) _ _ (none_in back.Complete (text_at b) (λ x. refl))
    (none_if (t == 73) _ _ (bare back.Empty b refl)
    (none_if (t == 69) _ _ (none_in back.Fault (fields_at b) (λ x. refl))
    (none_if (t == 78) _ _ (none_in back.Notice (fields_at b) (λ x. refl))
    (none_if (t == 65) _ _ (none_in back.Notify (notify_at b) (λ x. refl))
    (none_if (t == 49) _ _ (bare back.ParseDone b refl)
    (none_if (t == 50) _ _ (bare back.BindDone b refl)
    (none_if (t == 51) _ _ (bare back.CloseDone b refl)
    (none_if (t == 116) _ _ (none_in back.ParamTypes (list_at (number_at w32) b) (λ x. refl))
    (none_if (t == 110) _ _ (bare back.NoRows b refl)
    (none_if (t == 115) _ _ (bare back.Suspended b refl)
    (none_if (t == 71) _ _ (none_in back.CopyIn (copy_at b) (λ x. refl)) refl)))))))))))))))))

read_by : (t : ℕ) (b : List ℕ) (is : Bool) → (t == 75) ≡ is → key_read (whole (back_at t b)) ≡ option_to_list (if is then result_ok (whole (key_at b)) else None)
read_by t b true e = subst (λ (n : ℕ). key_read (whole (back_at n b)) ≡ option_to_list (result_ok (whole (key_at b)))) (sym (eqb-true t 75 e)) (key_whole (key_at b))
read_by t b false e = other_type t b e

read_key : (f : Frame) → key_read (back_of f) ≡ option_to_list (key_of f)
unfolding back_of key_of
read_key f = read_by f.tag f.body (f.tag == 75) refl

-- ---- many

keys_read : (fs : List Frame) → flat_map (λ f. key_read (back_of f)) fs ≡ keys_in fs
keys_read [] = refl
keys_read (f ∷ fs) = ap (λ (ks : List PodKey). ks ++ flat_map (λ g. key_read (back_of g)) fs) (read_key f) ∙ ap (λ (ks : List PodKey). option_to_list (key_of f) ++ ks) (keys_read fs)

no_key : (f : Frame) (n : ℕ) → f.tag ≡ n → (n == 75) ≡ false → option_to_list (key_of f) ≡ []
unfolding key_of
no_key f n e other = ap (λ (b : Bool). option_to_list (if b then result_ok (whole (key_at f.body)) else None)) (ap (λ (m : ℕ). m == 75) e ∙ other)

-- what was tested and read was of the type that is read for
read_for : {A : Type 0} (test : Option A → Bool) (b : Bool) (o : Option A) → test None ≡ false → test (if b then o else None) ≡ true → b ≡ true
read_for test true o n e = refl
read_for test false o n e = absurd (let no : false ≡ true = sym n ∙ e in cc)

auth_tag : (f : Frame) → is_auth_ok f ≡ true → f.tag ≡ 82
unfolding is_auth_ok auth_of
auth_tag f e = eqb-true f.tag 82 (read_for has_code_0 (f.tag == 82) _ refl e)

columns_tag : (f : Frame) → has_one_column f ≡ true → f.tag ≡ 84
unfolding columns_of
columns_tag f e = eqb-true f.tag 84 (read_for is_one (f.tag == 84) _ refl e)

row_tag : (f : Frame) → has_t (row_of f) ≡ true → f.tag ≡ 68
unfolding row_of
row_tag f e = eqb-true f.tag 68 (read_for has_t (f.tag == 68) _ refl e)

first_tag : (f : Frame) (n : ℕ) (b : Bool) → ((f.tag == n) && b) ≡ true → f.tag ≡ n
first_tag f n b e = eqb-true f.tag n (and_parts (f.tag == n) b e).0

keys_both : (xs ys : List Frame) → keys_in (xs ++ ys) ≡ keys_in xs ++ keys_in ys
keys_both xs ys = flat_map-append (λ f. option_to_list (key_of f)) xs ys

keys_last : (xs : List Frame) (f : Frame) → option_to_list (key_of f) ≡ [] → keys_in (xs ++ f ∷ []) ≡ keys_in xs
keys_last xs f e = keys_both xs (f ∷ []) ∙ ap (λ (ks : List PodKey). keys_in xs ++ (ks ++ [])) e ∙ append-nil (keys_in xs)

keys_first : (f : Frame) (xs : List Frame) → option_to_list (key_of f) ≡ [] → keys_in (f ∷ xs) ≡ keys_in xs
keys_first f xs e = ap (λ (ks : List PodKey). ks ++ keys_in xs) e

-- ---- what is accepted

greeting_keys : (fs : List Frame) (key : Option PodKey) → AcceptsGreeting fs key → keys_in fs ≡ option_to_list key
greeting_keys fs key a =
    ap (λ (gs : List Frame). keys_in gs) a.whole ∙ keys_first a.auth (a.between ++ a.ready ∷ []) (no_key a.auth 82 (auth_tag a.auth a.begins) refl)
    ∙ keys_last a.between a.ready (no_key a.ready 90 (first_tag a.ready 90 _ a.ends) refl) ∙ a.keyed

reply_keys : (fs : List Frame) → AcceptsRestored fs → keys_in fs ≡ []
reply_keys fs a =
    ap (λ (gs : List Frame). keys_in gs) a.whole
    ∙ keys_first a.columns (a.value ∷ a.tag ∷ a.ready ∷ []) (no_key a.columns 84 (columns_tag a.columns a.named) refl)
    ∙ keys_first a.value (a.tag ∷ a.ready ∷ []) (no_key a.value 68 (row_tag a.value a.true_row) refl)
    ∙ keys_first a.tag (a.ready ∷ []) (no_key a.tag 67 (first_tag a.tag 67 _ a.done) refl)
    ∙ keys_first a.ready [] (no_key a.ready 90 (first_tag a.ready 90 _ a.ends) refl)

pub keys_accepted : (fs : List Frame) (key : Option PodKey) → AcceptsNew fs key → flat_map (λ f. key_read (back_of f)) fs ≡ option_to_list key
keys_accepted fs key a =
    keys_read fs ∙ ap (λ (gs : List Frame). keys_in gs) a.whole ∙ keys_both a.greeting a.reply
    ∙ ap (λ (ks : List PodKey). keys_in a.greeting ++ ks) (reply_keys a.reply a.restores) ∙ append-nil (keys_in a.greeting) ∙ greeting_keys a.greeting key a.greets
