-- The new pod's greeting: the stages take what is accepted.
use Rattle.std.proofs.Common.{◌≡◌, ◌+◌, ◌<◌, ◌≤◌, ℕ, Bool, true, false, List, [], ◌∷◌, ◌++◌, length, map, Option, Some, None, refl, sym, ap, ◌∙◌, subst, ◌⊎◌, inl, inr, arith, append-nil}
use Rattle.std.specs.Prelude.{◌==◌, ◌&&◌, ◌||◌, nat_lt, filter, is_some, if◌then◌else◌}
use Rattle.std.specs.List.{list_all}
use Rattle.std.specs.Option.{option_to_list}
use Rattle.std.specs.Str.{bytes_eq}
use Rattle.std.proofs.lemmas.Bool.{and_parts, eqb-true, lt-ltb, ltb-true}
use Rattle.pgw_frames.specs.declared.frame.Frame.{Frame}
use Rattle.pgw_messages.specs.declared.params.Pair.{Pair}
use Rattle.pgw_messages.specs.declared.pod_key.PodKey.{PodKey}
use Rattle.session_model.specs.Texts.{ready}
use Rattle.session_model.specs.declared.transfer.TransferKey.{TransferKey}
use Rattle.transfer_stages.specs.Accepts.{AcceptsGreeting, is_status, is_pod_key, keys_in}
use Rattle.transfer_stages.specs.Taking.{Leads, GreetingLeads, GreetingStops, GreetingGoesOn}
use Rattle.transfer_stages.specs.Exchange.{wants, takes, is_ready_idle, is_auth_ok, has_code_0, keeps_key, greets, new_unexpected}
use Rattle.pgw_messages.specs.declared.backend.auth.AuthMsg.{AuthMsg}
use Rattle.transfer_stages.specs.Rows.{auth_of, key_of}
use Rattle.pgw_messages.specs.Backend.{back_frame, auth_at, key_at}
use Rattle.pgw_messages.specs.Reading.{whole}
use Rattle.pgw_messages.specs.declared.backend.message.BackMsg.TheVariants as back
use Rattle.std.specs.Result.{result_ok}
use Rattle.transfer_stages.specs.declared.stage.Stage.{Stage}
use Rattle.transfer_stages.specs.declared.stage.Stage.TheVariants as at
use Rattle.transfer_stages.specs.declared.stage.Want.TheVariants.{AwaitNew}
use Rattle.transfer_stages.proofs.Leading.{stuck, step, step_back, behind, joined, refused_or}

-- ---- one frame

takes_auth : (t : TransferKey) (p : List Pair) (state : List ℕ) (f : Frame) → takes t p (at.NewAuth state) f ≡ (if is_auth_ok f then at.NewStatus state 0 None else new_unexpected f)
unfolding takes
takes_auth t p state f = refl

takes_status : (t : TransferKey) (p : List Pair) (state : List ℕ) (n : ℕ) (key : Option PodKey) (f : Frame) → takes t p (at.NewStatus state n key) f ≡ greets state n key f
unfolding takes
takes_status t p state n key f = refl

is_left : (f : Frame) → ¬ (wants (new_unexpected f) ≡ AwaitNew)
is_left f e = cc

not_refused : (f : Frame) (state : List ℕ) (key : Option PodKey) → ¬ (new_unexpected f ≡ at.Restore state key)
not_refused f state key e = cc

other_tag : (f : Frame) (n m : ℕ) → (n == m) ≡ false → (f.tag == n) ≡ true → (f.tag == m) ≡ false
other_tag f n m apart e = ap (λ (k : ℕ). k == m) (eqb-true f.tag n e) ∙ apart

status_taken : (state : List ℕ) (n : ℕ) (key : Option PodKey) (f : Frame) → is_status f ≡ true → n < 1000 → greets state n key f ≡ at.NewStatus state (n + 1) key
status_taken state n key f e less = rw (e, lt-ltb n 1000 less) refl

tag_by : (b : Bool) (key : Option PodKey) → is_some (if b then key else None) ≡ true → b ≡ true
tag_by true key e = refl
tag_by false key e = absurd cc

pub key_tag : (f : Frame) → is_pod_key f ≡ true → (f.tag == 75) ≡ true
unfolding key_of
key_tag f e = tag_by (f.tag == 75) (result_ok (whole (key_at f.body))) e

auth_by : (b : Bool) (m : Option AuthMsg) → has_code_0 (if b then m else None) ≡ true → b ≡ true
auth_by true m e = refl
auth_by false m e = absurd cc

pub auth_tag : (f : Frame) → is_auth_ok f ≡ true → (f.tag == 82) ≡ true
unfolding is_auth_ok auth_of
auth_tag f e = auth_by (f.tag == 82) (result_ok (whole (auth_at f.body))) e

-- a message of another type has no key
no_key : (f : Frame) → (f.tag == 75) ≡ false → key_of f ≡ None
unfolding key_of
no_key f e = rw e refl

key_taken : (state : List ℕ) (n : ℕ) (f : Frame) → is_pod_key f ≡ true → greets state n None f ≡ at.NewStatus state n (key_of f)
key_taken state n f e = rw (other_tag f 75 83 refl (key_tag f e), key_tag f e, e) refl

ready_taken : (state : List ℕ) (n : ℕ) (key : Option PodKey) (f : Frame) → is_ready_idle f ≡ true → greets state n key f ≡ at.Restore state key
ready_taken state n key f e =
    let parts = and_parts (f.tag == 90) (bytes_eq f.body (73 ∷ [])) e in
    rw (other_tag f 90 83 refl parts.0, other_tag f 90 75 refl parts.0, parts.0, parts.1) refl

-- ---- what may stand between the first frame and the ready, where so many and this key came before

record Between (n : ℕ) (key : Option PodKey) (fs : List Frame) (last : Option PodKey) : Type 0 where
  known : list_all (λ f. is_status f || is_pod_key f) fs ≡ true
  statuses : n + length (filter is_status fs) ≤ 1000
  keyed : option_to_list key ++ keys_in fs ≡ option_to_list last

no_more : (n : ℕ) (key last : Option PodKey) → n ≤ 1000 → key ≡ last → Between n key [] last
no_more n key last le same = record { known = refl; statuses = omega arith; keyed = append-nil (option_to_list key) ∙ ap option_to_list same }

one_status : (n : ℕ) (key : Option PodKey) (f : Frame) (fs : List Frame) (last : Option PodKey) → is_status f ≡ true → Between (n + 1) key fs last → Between n key (f ∷ fs) last
one_status n key f fs last e b =
    record {
      known = rw e b.known;
      statuses = rw e (omega (arith, b.statuses));
      keyed = rw (no_key f (other_tag f 83 75 refl e)) b.keyed;
    }

one_key : (n : ℕ) (f : Frame) (fs : List Frame) (last : Option PodKey) → is_pod_key f ≡ true → Between n (key_of f) fs last → Between n None (f ∷ fs) last
one_key n f fs last e b =
    let plain : is_status f ≡ false = other_tag f 75 83 refl (key_tag f e) in
    record {
      known = rw (plain, e) b.known;
      statuses = rw plain b.statuses;
      keyed = b.keyed;
    }

-- ---- what leads to the restore is a greeting

record Greeted (state : List ℕ) (n : ℕ) (key : Option PodKey) (fs : List Frame) (s : List ℕ) (last : Option PodKey) : Type 0 where
  between : List Frame
  end : Frame
  whole : fs ≡ between ++ end ∷ []
  same : s ≡ state
  within : Between n key between last
  idle : is_ready_idle end ≡ true

abbrev Rest : TransferKey → List Pair → List ℕ → List Frame → List ℕ → Option PodKey → Type 0
Rest t p state fs s last = (m : ℕ) (key : Option PodKey) → m ≤ 1000 → Leads AwaitNew t p (at.NewStatus state m key) fs (at.Restore s last) → Greeted state m key fs s last

never : (t : TransferKey) (p : List Pair) (f : Frame) (fs : List Frame) (s : List ℕ) (last : Option PodKey) → ¬ Leads AwaitNew t p (new_unexpected f) fs (at.Restore s last)
never t p f fs s last h = not_refused f s last (stuck AwaitNew t p (new_unexpected f) fs (at.Restore s last) (is_left f) h).1

key_led : (t : TransferKey) (p : List Pair) (state : List ℕ) (n : ℕ) (key : Option PodKey) (f : Frame) (fs : List Frame) (s : List ℕ) (last : Option PodKey) (b : Bool) → n ≤ 1000 → (f.tag == 75) ≡ true → is_some (key_of f) ≡ b
    → Leads AwaitNew t p (keeps_key state n f key) fs (at.Restore s last) → Rest t p state fs s last → Greeted state n key (f ∷ fs) s last
key_led t p state n (Some key) f fs s last b le e is h rest = absurd (never t p f fs s last h)
key_led t p state n None f fs s last true le e is h rest =
    let r = rest n (key_of f) le (rw is at h) in
    record {
      between = f ∷ r.between;
      end = r.end;
      whole = ap (λ (gs : List Frame). f ∷ gs) r.whole;
      same = r.same;
      within = one_key n f r.between last is r.within;
      idle = r.idle;
    }
key_led t p state n None f fs s last false le e is h rest = absurd (never t p f fs s last (rw is at h))

greeted_by : (t : TransferKey) (p : List Pair) (state : List ℕ) (n : ℕ) (key : Option PodKey) (f : Frame) (fs : List Frame) (s : List ℕ) (last : Option PodKey) (a b c : Bool)
    → n ≤ 1000 → (is_status f && nat_lt n 1000) ≡ a → (f.tag == 75) ≡ b → is_ready_idle f ≡ c
    → Leads AwaitNew t p (if a then at.NewStatus state (n + 1) key else if b then keeps_key state n f key else if c then at.Restore state key else new_unexpected f) fs (at.Restore s last)
    → Rest t p state fs s last → Greeted state n key (f ∷ fs) s last
greeted_by t p state n key f fs s last true b c le is_a is_b is_c h rest =
    let parts = and_parts (is_status f) (nat_lt n 1000) is_a in
    let less : n < 1000 = ltb-true n 1000 parts.1 in
    let r = rest (n + 1) key (omega arith) h in
    record {
      between = f ∷ r.between;
      end = r.end;
      whole = ap (λ (gs : List Frame). f ∷ gs) r.whole;
      same = r.same;
      within = one_status n key f r.between last parts.0 r.within;
      idle = r.idle;
    }
greeted_by t p state n key f fs s last false true c le is_a is_b is_c h rest = key_led t p state n key f fs s last (is_some (key_of f)) le is_b refl h rest
greeted_by t p state n key f fs s last false false true le is_a is_b is_c h rest =
    let over = stuck AwaitNew t p (at.Restore state key) fs (at.Restore s last) (λ e. cc) h in
    let state_same : s ≡ state = cc (over.1) in
    let key_same : key ≡ last = cc (over.1) in
    record { between = []; end = f; whole = ap (λ (gs : List Frame). f ∷ gs) over.0; same = state_same; within = no_more n key last le key_same; idle = is_c }
greeted_by t p state n key f fs s last false false false le is_a is_b is_c h rest = absurd (never t p f fs s last h)

greeted : (t : TransferKey) (p : List Pair) (state : List ℕ) (n : ℕ) (key : Option PodKey) (fs : List Frame) (s : List ℕ) (last : Option PodKey) → n ≤ 1000 → Leads AwaitNew t p (at.NewStatus state n key) fs (at.Restore s last) → Greeted state n key fs s last
greeted t p state n key [] s last le h = absurd cc
greeted t p state n key (f ∷ fs) s last le h =
    greeted_by t p state n key f fs s last (is_status f && nat_lt n 1000) (f.tag == 75) (is_ready_idle f) le refl refl refl
    (subst (λ (z : Stage). Leads AwaitNew t p z fs (at.Restore s last)) (takes_status t p state n key f) h.1)
    (λ m k small g. greeted t p state m k fs s last small g)

greeting_led : (t : TransferKey) (p : List Pair) (state : List ℕ) (fs : List Frame) (s : List ℕ) (key : Option PodKey) → Leads AwaitNew t p (at.NewAuth state) fs (at.Restore s key) → (s ≡ state) × AcceptsGreeting fs key
greeting_led t p state [] s key h = absurd cc
greeting_led t p state (f ∷ fs) s key h =
    let led = step AwaitNew t p (at.NewAuth state) f fs (at.Restore s key) (at.NewStatus state 0 None) (new_unexpected f) (is_auth_ok f) (takes_auth t p state f) (is_left f) (not_refused f s key) h in
    let r = greeted t p state 0 None fs s key (omega arith) led.1 in (
      r.same,
      record {
        auth = f;
        between = r.between;
        ready = r.end;
        whole = ap (λ (gs : List Frame). f ∷ gs) r.whole;
        begins = led.0;
        known = r.within.known;
        statuses = omega (arith, r.within.statuses);
        keyed = r.within.keyed;
        ends = r.idle;
      },
    )

-- ---- a greeting leads to the restore

-- no second key stands behind a first one
one_only : (k : PodKey) (second : Option PodKey) (ks : List PodKey) (last : Option PodKey) → is_some second ≡ true → ¬ ((k ∷ []) ++ (option_to_list second ++ ks) ≡ option_to_list last)
one_only k None ks last some e = cc
one_only k (Some j) ks None some e = cc
one_only k (Some j) ks (Some l) some e = cc

same_key : (key last : Option PodKey) → option_to_list key ++ [] ≡ option_to_list last → key ≡ last
same_key None None e = refl
same_key None (Some l) e = absurd cc
same_key (Some k) None e = absurd cc
same_key (Some k) (Some l) e = cc

abbrev Leading : TransferKey → List Pair → List ℕ → ℕ → Option PodKey → List Frame → Frame → Option PodKey → Type 0
Leading t p state n key between end last = Leads AwaitNew t p (at.NewStatus state n key) (between ++ end ∷ []) (at.Restore state last)

led_on : (t : TransferKey) (p : List Pair) (state : List ℕ) (n : ℕ) (key : Option PodKey) (f : Frame) (fs : List Frame) (x y : Stage) → greets state n key f ≡ x → Leads AwaitNew t p x fs y → Leads AwaitNew t p (at.NewStatus state n key) (f ∷ fs) y
led_on t p state n key f fs x y e h = (refl, subst (λ (z : Stage). Leads AwaitNew t p z fs y) (sym (takes_status t p state n key f ∙ e)) h)

status_leads : (t : TransferKey) (p : List Pair) (state : List ℕ) (n : ℕ) (key : Option PodKey) (f : Frame) (fs : List Frame) (end : Frame) (last : Option PodKey) → is_status f ≡ true → Between n key (f ∷ fs) last
    → (Between (n + 1) key fs last → Leading t p state (n + 1) key fs end last) → Leading t p state n key (f ∷ fs) end last
status_leads t p state n key f fs end last e b rest =
    let count : length (filter is_status (f ∷ fs)) ≡ length (filter is_status fs) + 1 = rw e (omega arith) in
    let others = rest (record {
      known = rw e at b.known;
      statuses = omega (arith, b.statuses);
      keyed = rw (no_key f (other_tag f 83 75 refl e)) at b.keyed;
    }) in
    led_on t p state n key f (fs ++ end ∷ []) (at.NewStatus state (n + 1) key) (at.Restore state last) (status_taken state n key f e (omega (arith, b.statuses))) others

key_leads : (t : TransferKey) (p : List Pair) (state : List ℕ) (n : ℕ) (key : Option PodKey) (f : Frame) (fs : List Frame) (end : Frame) (last : Option PodKey) → is_status f ≡ false → is_pod_key f ≡ true → Between n key (f ∷ fs) last
    → (Between n (key_of f) fs last → Leading t p state n (key_of f) fs end last) → Leading t p state n key (f ∷ fs) end last
key_leads t p state n (Some k) f fs end last plain e b rest = absurd (one_only k (key_of f) (keys_in fs) last e b.keyed)
key_leads t p state n None f fs end last plain e b rest =
    let others = rest (record {
      known = rw (plain, e) at b.known;
      statuses = rw plain at b.statuses;
      keyed = b.keyed;
    }) in
    led_on t p state n None f (fs ++ end ∷ []) (at.NewStatus state n (key_of f)) (at.Restore state last) (key_taken state n f e) others

known_by : (f : Frame) (fs : List Frame) → (is_status f || is_pod_key f) && list_all (λ g. is_status g || is_pod_key g) fs ≡ true → is_status f ≡ false → is_pod_key f ≡ true
known_by f fs e plain =
    let one = and_parts (is_status f || is_pod_key f) (list_all (λ g. is_status g || is_pod_key g) fs) e in
    rw plain at one.0

between_leads_by : (t : TransferKey) (p : List Pair) (state : List ℕ) (n : ℕ) (key : Option PodKey) (f : Frame) (fs : List Frame) (end : Frame) (last : Option PodKey) (a : Bool) → is_status f ≡ a → Between n key (f ∷ fs) last
    → ((m : ℕ) (k : Option PodKey) → Between m k fs last → Leading t p state m k fs end last) → Leading t p state n key (f ∷ fs) end last
between_leads_by t p state n key f fs end last true e b rest = status_leads t p state n key f fs end last e b (rest (n + 1) key)
between_leads_by t p state n key f fs end last false e b rest = key_leads t p state n key f fs end last e (known_by f fs b.known e) b (rest n (key_of f))

between_leads : (t : TransferKey) (p : List Pair) (state : List ℕ) (n : ℕ) (key : Option PodKey) (between : List Frame) (end : Frame) (last : Option PodKey) → is_ready_idle end ≡ true → Between n key between last → Leading t p state n key between end last
between_leads t p state n key [] end last idle b =
    led_on t p state n key end [] (at.Restore state key) (at.Restore state last) (ready_taken state n key end idle) (ap (at.Restore state) (same_key key last b.keyed))
between_leads t p state n key (f ∷ fs) end last idle b =
    between_leads_by t p state n key f fs end last (is_status f) refl b (λ m k c. between_leads t p state m k fs end last idle c)

greeting_leads : (t : TransferKey) (p : List Pair) (state : List ℕ) (fs : List Frame) (key : Option PodKey) → AcceptsGreeting fs key → Leads AwaitNew t p (at.NewAuth state) fs (at.Restore state key)
greeting_leads t p state fs key a =
    let b : Between 0 None a.between key = record { known = a.known; statuses = omega (arith, a.statuses); keyed = a.keyed } in
    subst (λ (gs : List Frame). Leads AwaitNew t p (at.NewAuth state) gs (at.Restore state key)) (sym a.whole)
    (step_back AwaitNew t p (at.NewAuth state) a.auth (a.between ++ a.ready ∷ []) (at.Restore state key) (at.NewStatus state 0 None) (new_unexpected a.auth) (is_auth_ok a.auth) (takes_auth t p state a.auth) refl a.begins
    (between_leads t p state 0 None a.between a.ready key a.ends b))

greeting_back : (t : TransferKey) (p : List Pair) (state : List ℕ) (fs : List Frame) (s : List ℕ) (key : Option PodKey) → (s ≡ state) × AcceptsGreeting fs key → Leads AwaitNew t p (at.NewAuth state) fs (at.Restore s key)
greeting_back t p state fs s key a = subst (λ (v : List ℕ). Leads AwaitNew t p (at.NewAuth state) fs (at.Restore v key)) (sym a.0) (greeting_leads t p state fs key a.1)

pub accepted : GreetingLeads
accepted t p state fs s key = (greeting_led t p state fs s key, greeting_back t p state fs s key)

-- ---- each stage of a greeting goes on to the restore

record GoesOn (t : TransferKey) (p : List Pair) (x : Stage) : Type 0 where
  more : List Frame
  s : List ℕ
  key : Option PodKey
  leads : Leads AwaitNew t p x more (at.Restore s key)

restore_goes : (t : TransferKey) (p : List Pair) (state : List ℕ) (key : Option PodKey) → GoesOn t p (at.Restore state key)
restore_goes t p state key = record { more = []; s = state; key = key; leads = refl }

status_goes : (t : TransferKey) (p : List Pair) (state : List ℕ) (n : ℕ) (key : Option PodKey) → GoesOn t p (at.NewStatus state n key)
status_goes t p state n key = record { more = ready 73 ∷ []; s = state; key = key; leads = led_on t p state n key (ready 73) [] (at.Restore state key) (at.Restore state key) (ready_taken state n key (ready 73) refl) refl }

auth_ok : Frame
auth_ok = back_frame (back.Auth (record { code = 0; rest = [] }))

auth_goes : (t : TransferKey) (p : List Pair) (state : List ℕ) → GoesOn t p (at.NewAuth state)
unfolding auth_ok is_auth_ok auth_of
auth_goes t p state =
    let others = status_goes t p state 0 None in
    record {
      more = auth_ok ∷ others.more;
      s = others.s;
      key = others.key;
      leads = step_back AwaitNew t p (at.NewAuth state) auth_ok others.more (at.Restore others.s others.key) (at.NewStatus state 0 None) (new_unexpected auth_ok) true (takes_auth t p state auth_ok) refl refl others.leads;
    }

-- the stages that a greeting passes
abbrev IsGreeting : Stage → Type 0
IsGreeting (at.NewAuth state) = Unit {0}
IsGreeting (at.NewStatus state n key) = Unit {0}
IsGreeting (at.Restore state key) = Unit {0}
IsGreeting (at.Ended o) = Unit {0}
IsGreeting at.AskOld = ⊥
IsGreeting at.OldColumns = ⊥
IsGreeting at.OldRow = ⊥
IsGreeting (at.OldTag s) = ⊥
IsGreeting (at.OldReady s) = ⊥
IsGreeting (at.Dial state token) = ⊥
IsGreeting (at.Packet state token) = ⊥
IsGreeting (at.NewColumns key) = ⊥
IsGreeting (at.NewRow key) = ⊥
IsGreeting (at.NewTag key) = ⊥
IsGreeting (at.NewReady key) = ⊥

goes : (t : TransferKey) (p : List Pair) (x : Stage) → IsGreeting x → wants x ≡ AwaitNew → GoesOn t p x
goes t p (at.NewAuth state) i w = auth_goes t p state
goes t p (at.NewStatus state n key) i w = status_goes t p state n key
goes t p (at.Restore state key) i w = restore_goes t p state key
goes t p (at.Ended o) i w = absurd cc
goes t p at.AskOld i w = absurd i
goes t p at.OldColumns i w = absurd i
goes t p at.OldRow i w = absurd i
goes t p (at.OldTag s) i w = absurd i
goes t p (at.OldReady s) i w = absurd i
goes t p (at.Dial state token) i w = absurd i
goes t p (at.Packet state token) i w = absurd i
goes t p (at.NewColumns key) i w = absurd i
goes t p (at.NewRow key) i w = absurd i
goes t p (at.NewTag key) i w = absurd i
goes t p (at.NewReady key) i w = absurd i

-- a frame is refused, or the greeting goes on
abbrev Choice : TransferKey → List Pair → Stage → Frame → Type 0
Choice t p z f = (z ≡ new_unexpected f) ⊎ (IsGreeting z × GoesOn t p z)

key_choice : (t : TransferKey) (p : List Pair) (state : List ℕ) (n : ℕ) (key : Option PodKey) (f : Frame) → Choice t p (keeps_key state n f key) f
key_choice t p state n (Some k) f = inl refl
key_choice t p state n None f = refused_or (λ z. IsGreeting z × GoesOn t p z) (keeps_key state n f None) (at.NewStatus state n (key_of f)) (new_unexpected f) (is_some (key_of f)) refl (tt, status_goes t p state n (key_of f))

chosen : (t : TransferKey) (p : List Pair) (f : Frame) (b : Bool) (x y : Stage) → Choice t p x f → Choice t p y f → Choice t p (if b then x else y) f
chosen t p f true x y h g = h
chosen t p f false x y h g = g

greets_choice : (t : TransferKey) (p : List Pair) (state : List ℕ) (n : ℕ) (key : Option PodKey) (f : Frame) → Choice t p (greets state n key f) f
greets_choice t p state n key f =
    chosen t p f (is_status f && nat_lt n 1000) (at.NewStatus state (n + 1) key) _ (inr (tt, status_goes t p state (n + 1) key))
    (chosen t p f (f.tag == 75) (keeps_key state n f key) _ (key_choice t p state n key f)
    (chosen t p f (is_ready_idle f) (at.Restore state key) (new_unexpected f) (inr (tt, restore_goes t p state key)) (inl refl)))

choice : (t : TransferKey) (p : List Pair) (x : Stage) (f : Frame) → IsGreeting x → wants x ≡ AwaitNew → Choice t p (takes t p x f) f
choice t p (at.NewAuth state) f i w = refused_or (λ z. IsGreeting z × GoesOn t p z) (takes t p (at.NewAuth state) f) (at.NewStatus state 0 None) (new_unexpected f) (is_auth_ok f) (takes_auth t p state f) (tt, status_goes t p state 0 None)
choice t p (at.NewStatus state n key) f i w = subst (λ (z : Stage). Choice t p z f) (sym (takes_status t p state n key f)) (greets_choice t p state n key f)
choice t p (at.Restore state key) f i w = absurd cc
choice t p (at.Ended o) f i w = absurd cc
choice t p at.AskOld f i w = absurd i
choice t p at.OldColumns f i w = absurd i
choice t p at.OldRow f i w = absurd i
choice t p (at.OldTag s) f i w = absurd i
choice t p (at.OldReady s) f i w = absurd i
choice t p (at.Dial state token) f i w = absurd i
choice t p (at.Packet state token) f i w = absurd i
choice t p (at.NewColumns key) f i w = absurd i
choice t p (at.NewRow key) f i w = absurd i
choice t p (at.NewTag key) f i w = absurd i
choice t p (at.NewReady key) f i w = absurd i

stays : (t : TransferKey) (p : List Pair) (z : Stage) (f : Frame) → Choice t p z f → IsGreeting z
stays t p z f (inl e) = subst IsGreeting (sym e) tt
stays t p z f (inr g) = g.0

reached : (t : TransferKey) (p : List Pair) (x : Stage) (before : List Frame) (y : Stage) → IsGreeting x → Leads AwaitNew t p x before y → IsGreeting y
reached t p x [] y i h = subst IsGreeting h i
reached t p x (f ∷ before) y i h = reached t p (takes t p x f) before y (stays t p (takes t p x f) f (choice t p x f i h.0)) h.1

pub goes_on : GreetingGoesOn
goes_on t p state before x came =
    let g = goes t p x (reached t p (at.NewAuth state) before x tt came.0) came.1 in
    (g.more, (g.key, (greeting_led t p state (before ++ g.more) g.s g.key (joined AwaitNew t p (at.NewAuth state) before x g.more (at.Restore g.s g.key) came.0 g.leads)).1))

-- ---- a frame is refused exactly where no accepted greeting has it

abbrev IsNowhere : List Frame → Frame → Type 0
IsNowhere before f = (more : List Frame) (key : Option PodKey) → ¬ AcceptsGreeting (before ++ f ∷ more) key

nowhere : (t : TransferKey) (p : List Pair) (state : List ℕ) (before : List Frame) (x : Stage) (f : Frame) → Leads AwaitNew t p (at.NewAuth state) before x → takes t p x f ≡ new_unexpected f → IsNowhere before f
nowhere t p state before x f h e more key a =
    let led = behind AwaitNew t p (at.NewAuth state) before x (f ∷ more) (at.Restore state key) h (greeting_leads t p state (before ++ f ∷ more) key a) in
    never t p f more state key (subst (λ (z : Stage). Leads AwaitNew t p z more (at.Restore state key)) e led.1)

refuses_by : (t : TransferKey) (p : List Pair) (state : List ℕ) (before : List Frame) (x : Stage) (f : Frame) → Leads AwaitNew t p (at.NewAuth state) before x → wants x ≡ AwaitNew → Choice t p (takes t p x f) f → IsNowhere before f → takes t p x f ≡ new_unexpected f
refuses_by t p state before x f h w (inl e) none = e
refuses_by t p state before x f h w (inr c) none =
    let g = c.1 in
    absurd (none g.more g.key (greeting_led t p state (before ++ f ∷ g.more) g.s g.key (joined AwaitNew t p (at.NewAuth state) before x (f ∷ g.more) (at.Restore g.s g.key) h (w, g.leads))).1)

pub unexpected : GreetingStops
unexpected t p state before x f came =
    (nowhere t p state before x f came.0, refuses_by t p state before x f came.0 came.1 (choice t p x f (reached t p (at.NewAuth state) before x tt came.0) came.1))
