-- The new pod's reply to a restore Query: the stages take what is accepted.
use Rattle.std.proofs.Common.{◌≡◌, Bool, true, false, List, [], ◌∷◌, ◌++◌, Option, refl, sym, ap, subst, ◌⊎◌, inl, inr}
use Rattle.std.specs.Prelude.{Some, None, if◌then◌else◌, codes}
use Rattle.pgw_frames.specs.declared.frame.Frame.{Frame}
use Rattle.pgw_messages.specs.declared.params.Pair.{Pair}
use Rattle.pgw_messages.specs.Reading.{list_at}
use Rattle.transfer_stages.proofs.Columns.{restored_named}
use Rattle.pgw_messages.specs.declared.backend.fields.Field.{Field}
use Rattle.pgw_messages.specs.declared.pod_key.PodKey.{PodKey}
use Rattle.session_model.specs.Texts.{ready, restore_columns, restore_row, restore_tag}
use Rattle.session_model.specs.declared.transfer.TransferKey.{TransferKey}
use Rattle.transfer_stages.specs.Accepts.{AcceptsRestored}
use Rattle.transfer_stages.specs.Taking.{Leads, RestoredLeads, RestoredStops, RestoredGoesOn, NewPodLeads}
use Rattle.transfer_stages.specs.Exchange.{wants, takes, is_tag, is_ready_idle, has_t, refusal, new_unexpected}
use Rattle.transfer_stages.specs.Rows.{has_one_column, fault_of, row_of}
use Rattle.transfer_stages.specs.declared.stage.Outcome.{Outcome}
use Rattle.transfer_stages.specs.declared.stage.Outcome.TheVariants.{Moved}
use Rattle.transfer_stages.specs.declared.stage.Stage.{Stage}
use Rattle.transfer_stages.specs.declared.stage.Stage.TheVariants as at
use Rattle.transfer_stages.specs.declared.stage.Want.TheVariants.{AwaitNew}
use Rattle.transfer_stages.proofs.Leading.{stuck, step, step_back, behind, joined, refused_or}
use Rattle.transfer_stages.proofs.NewGreeting as greeting

-- ---- the four frames

names_test : Frame → Bool
names_test f = has_one_column f

row_test : Frame → Bool
row_test f = has_t (row_of f)

tag_test : Frame → Bool
tag_test f = is_tag (codes "SELECT 1") f

takes_columns : (t : TransferKey) (p : List Pair) (key : Option PodKey) (f : Frame) → takes t p (at.NewColumns key) f ≡ (if names_test f then at.NewRow key else new_unexpected f)
unfolding takes names_test
takes_columns t p key f = refl

takes_row : (t : TransferKey) (p : List Pair) (key : Option PodKey) (f : Frame) → takes t p (at.NewRow key) f ≡ (if row_test f then at.NewTag key else new_unexpected f)
unfolding takes row_test
takes_row t p key f = refl

takes_tag : (t : TransferKey) (p : List Pair) (key : Option PodKey) (f : Frame) → takes t p (at.NewTag key) f ≡ (if tag_test f then at.NewReady key else new_unexpected f)
unfolding takes tag_test
takes_tag t p key f = refl

takes_ready : (t : TransferKey) (p : List Pair) (key : Option PodKey) (f : Frame) → takes t p (at.NewReady key) f ≡ (if is_ready_idle f then at.Ended (Moved key) else new_unexpected f)
unfolding takes
takes_ready t p key f = refl

-- ---- ends

is_left : (f : Frame) → ¬ (wants (new_unexpected f) ≡ AwaitNew)
is_left f e = cc

not_moved : (f : Frame) (key : Option PodKey) (fault : Option (List Field)) → ¬ (refusal f fault ≡ Moved key)
not_moved f key None e = cc
not_moved f key (Some fields) e = cc

outcome_same : (o r : Outcome) → at.Ended o ≡ at.Ended r → o ≡ r
outcome_same o r e = cc

not_refused : (f : Frame) (key : Option PodKey) → ¬ (new_unexpected f ≡ at.Ended (Moved key))
not_refused f key e = not_moved f key (fault_of f) (outcome_same _ _ e)

-- ---- forwards

record Ready (key last : Option PodKey) (fs : List Frame) : Type 0 where
  end : Frame
  whole : fs ≡ end ∷ []
  same : last ≡ key
  idle : is_ready_idle end ≡ true

ready_led : (t : TransferKey) (p : List Pair) (key last : Option PodKey) (fs : List Frame) → Leads AwaitNew t p (at.NewReady key) fs (at.Ended (Moved last)) → Ready key last fs
ready_led t p key last [] h = absurd cc
ready_led t p key last (f ∷ fs) h =
    let led = step AwaitNew t p (at.NewReady key) f fs (at.Ended (Moved last)) (at.Ended (Moved key)) (new_unexpected f) (is_ready_idle f) (takes_ready t p key f) (is_left f) (not_refused f last) h in
    let over = stuck AwaitNew t p (at.Ended (Moved key)) fs (at.Ended (Moved last)) (λ e. cc) led.1 in
    let moved : Moved key ≡ Moved last = outcome_same (Moved key) (Moved last) over.1 in
    record { end = f; whole = ap (λ (gs : List Frame). f ∷ gs) over.0; same = cc; idle = led.0 }

record Tagged (key last : Option PodKey) (fs : List Frame) : Type 0 where
  tag : Frame
  end : Frame
  whole : fs ≡ tag ∷ end ∷ []
  same : last ≡ key
  done : tag_test tag ≡ true
  idle : is_ready_idle end ≡ true

tag_led : (t : TransferKey) (p : List Pair) (key last : Option PodKey) (fs : List Frame) → Leads AwaitNew t p (at.NewTag key) fs (at.Ended (Moved last)) → Tagged key last fs
tag_led t p key last [] h = absurd cc
tag_led t p key last (f ∷ fs) h =
    let led = step AwaitNew t p (at.NewTag key) f fs (at.Ended (Moved last)) (at.NewReady key) (new_unexpected f) (tag_test f) (takes_tag t p key f) (is_left f) (not_refused f last) h in
    let r = ready_led t p key last fs led.1 in
    record { tag = f; end = r.end; whole = ap (λ (gs : List Frame). f ∷ gs) r.whole; same = r.same; done = led.0; idle = r.idle }

record Told (key last : Option PodKey) (fs : List Frame) : Type 0 where
  value : Frame
  tag : Frame
  end : Frame
  whole : fs ≡ value ∷ tag ∷ end ∷ []
  same : last ≡ key
  told : row_test value ≡ true
  done : tag_test tag ≡ true
  idle : is_ready_idle end ≡ true

row_led : (t : TransferKey) (p : List Pair) (key last : Option PodKey) (fs : List Frame) → Leads AwaitNew t p (at.NewRow key) fs (at.Ended (Moved last)) → Told key last fs
row_led t p key last [] h = absurd cc
row_led t p key last (f ∷ fs) h =
    let led = step AwaitNew t p (at.NewRow key) f fs (at.Ended (Moved last)) (at.NewTag key) (new_unexpected f) (row_test f) (takes_row t p key f) (is_left f) (not_refused f last) h in
    let r = tag_led t p key last fs led.1 in
    record { value = f; tag = r.tag; end = r.end; whole = ap (λ (gs : List Frame). f ∷ gs) r.whole; same = r.same; told = led.0; done = r.done; idle = r.idle }

restored_led : (t : TransferKey) (p : List Pair) (key last : Option PodKey) (fs : List Frame) → Leads AwaitNew t p (at.NewColumns key) fs (at.Ended (Moved last)) → (last ≡ key) × AcceptsRestored fs
unfolding names_test row_test tag_test
restored_led t p key last [] h = absurd cc
restored_led t p key last (f ∷ fs) h =
    let led = step AwaitNew t p (at.NewColumns key) f fs (at.Ended (Moved last)) (at.NewRow key) (new_unexpected f) (names_test f) (takes_columns t p key f) (is_left f) (not_refused f last) h in
    let r = row_led t p key last fs led.1 in (
      r.same,
      record {
        columns = f;
        value = r.value;
        tag = r.tag;
        ready = r.end;
        whole = ap (λ (gs : List Frame). f ∷ gs) r.whole;
        named = led.0;
        true_row = r.told;
        done = r.done;
        ends = r.idle;
      },
    )

-- ---- backwards

ready_leads : (t : TransferKey) (p : List Pair) (key : Option PodKey) (end : Frame) → is_ready_idle end ≡ true → Leads AwaitNew t p (at.NewReady key) (end ∷ []) (at.Ended (Moved key))
ready_leads t p key end idle = step_back AwaitNew t p (at.NewReady key) end [] (at.Ended (Moved key)) (at.Ended (Moved key)) (new_unexpected end) (is_ready_idle end) (takes_ready t p key end) refl idle refl

tag_leads : (t : TransferKey) (p : List Pair) (key : Option PodKey) (tag end : Frame) → tag_test tag ≡ true → is_ready_idle end ≡ true → Leads AwaitNew t p (at.NewTag key) (tag ∷ end ∷ []) (at.Ended (Moved key))
tag_leads t p key tag end done idle = step_back AwaitNew t p (at.NewTag key) tag (end ∷ []) (at.Ended (Moved key)) (at.NewReady key) (new_unexpected tag) (tag_test tag) (takes_tag t p key tag) refl done (ready_leads t p key end idle)

row_leads : (t : TransferKey) (p : List Pair) (key : Option PodKey) (value tag end : Frame) → row_test value ≡ true → tag_test tag ≡ true → is_ready_idle end ≡ true → Leads AwaitNew t p (at.NewRow key) (value ∷ tag ∷ end ∷ []) (at.Ended (Moved key))
row_leads t p key value tag end told done idle =
    step_back AwaitNew t p (at.NewRow key) value (tag ∷ end ∷ []) (at.Ended (Moved key)) (at.NewTag key) (new_unexpected value) (row_test value) (takes_row t p key value) refl told (tag_leads t p key tag end done idle)

columns_lead : (t : TransferKey) (p : List Pair) (key : Option PodKey) (columns value tag end : Frame) → names_test columns ≡ true → row_test value ≡ true → tag_test tag ≡ true → is_ready_idle end ≡ true
    → Leads AwaitNew t p (at.NewColumns key) (columns ∷ value ∷ tag ∷ end ∷ []) (at.Ended (Moved key))
columns_lead t p key columns value tag end named told done idle =
    step_back AwaitNew t p (at.NewColumns key) columns (value ∷ tag ∷ end ∷ []) (at.Ended (Moved key)) (at.NewRow key) (new_unexpected columns) (names_test columns) (takes_columns t p key columns) refl named
    (row_leads t p key value tag end told done idle)

restored_leads : (t : TransferKey) (p : List Pair) (key : Option PodKey) (fs : List Frame) → AcceptsRestored fs → Leads AwaitNew t p (at.NewColumns key) fs (at.Ended (Moved key))
unfolding names_test row_test tag_test
restored_leads t p key fs a = subst (λ (gs : List Frame). Leads AwaitNew t p (at.NewColumns key) gs (at.Ended (Moved key))) (sym a.whole) (columns_lead t p key a.columns a.value a.tag a.ready a.named a.true_row a.done a.ends)

restored_back : (t : TransferKey) (p : List Pair) (key last : Option PodKey) (fs : List Frame) → (last ≡ key) × AcceptsRestored fs → Leads AwaitNew t p (at.NewColumns key) fs (at.Ended (Moved last))
restored_back t p key last fs a = subst (λ (k : Option PodKey). Leads AwaitNew t p (at.NewColumns key) fs (at.Ended (Moved k))) (sym a.0) (restored_leads t p key fs a.1)

pub accepted : RestoredLeads
accepted t p key fs last = (restored_led t p key last fs, restored_back t p key last fs)

-- ---- each stage goes on to the end

record GoesOn (t : TransferKey) (p : List Pair) (x : Stage) : Type 0 where
  more : List Frame
  key : Option PodKey
  leads : Leads AwaitNew t p x more (at.Ended (Moved key))

named : names_test restore_columns ≡ true
unfolding names_test
named = restored_named

told : row_test restore_row ≡ true
unfolding row_test row_of restore_row list_at
told = refl

tagged : tag_test restore_tag ≡ true
unfolding tag_test restore_tag
tagged = refl

-- the stages of this reply
abbrev IsRestoring : Stage → Type 0
IsRestoring (at.NewColumns key) = Unit {0}
IsRestoring (at.NewRow key) = Unit {0}
IsRestoring (at.NewTag key) = Unit {0}
IsRestoring (at.NewReady key) = Unit {0}
IsRestoring (at.Ended o) = Unit {0}
IsRestoring at.AskOld = ⊥
IsRestoring at.OldColumns = ⊥
IsRestoring at.OldRow = ⊥
IsRestoring (at.OldTag s) = ⊥
IsRestoring (at.OldReady s) = ⊥
IsRestoring (at.Dial state token) = ⊥
IsRestoring (at.Packet state token) = ⊥
IsRestoring (at.NewAuth state) = ⊥
IsRestoring (at.NewStatus state n key) = ⊥
IsRestoring (at.Restore state key) = ⊥

ready_goes : (t : TransferKey) (p : List Pair) (key : Option PodKey) → GoesOn t p (at.NewReady key)
ready_goes t p key = record { more = ready 73 ∷ []; key = key; leads = ready_leads t p key (ready 73) refl }

tag_goes : (t : TransferKey) (p : List Pair) (key : Option PodKey) → GoesOn t p (at.NewTag key)
tag_goes t p key = record { more = restore_tag ∷ ready 73 ∷ []; key = key; leads = tag_leads t p key restore_tag (ready 73) tagged refl }

row_goes : (t : TransferKey) (p : List Pair) (key : Option PodKey) → GoesOn t p (at.NewRow key)
row_goes t p key = record { more = restore_row ∷ restore_tag ∷ ready 73 ∷ []; key = key; leads = row_leads t p key restore_row restore_tag (ready 73) told tagged refl }

columns_go : (t : TransferKey) (p : List Pair) (key : Option PodKey) → GoesOn t p (at.NewColumns key)
columns_go t p key = record { more = restore_columns ∷ restore_row ∷ restore_tag ∷ ready 73 ∷ []; key = key; leads = columns_lead t p key restore_columns restore_row restore_tag (ready 73) named told tagged refl }

goes : (t : TransferKey) (p : List Pair) (x : Stage) → IsRestoring x → wants x ≡ AwaitNew → GoesOn t p x
goes t p (at.NewColumns key) i w = columns_go t p key
goes t p (at.NewRow key) i w = row_goes t p key
goes t p (at.NewTag key) i w = tag_goes t p key
goes t p (at.NewReady key) i w = ready_goes t p key
goes t p (at.Ended o) i w = absurd cc
goes t p at.AskOld i w = absurd i
goes t p at.OldColumns i w = absurd i
goes t p at.OldRow i w = absurd i
goes t p (at.OldTag s) i w = absurd i
goes t p (at.OldReady s) i w = absurd i
goes t p (at.Dial state token) i w = absurd i
goes t p (at.Packet state token) i w = absurd i
goes t p (at.NewAuth state) i w = absurd i
goes t p (at.NewStatus state n key) i w = absurd i
goes t p (at.Restore state key) i w = absurd i

-- a frame is refused, or the reply goes on
abbrev Going : TransferKey → List Pair → Stage → Type 0
Going t p z = IsRestoring z × GoesOn t p z

abbrev Choice : TransferKey → List Pair → Stage → Frame → Type 0
Choice t p z f = (z ≡ new_unexpected f) ⊎ Going t p z

moved_goes : (t : TransferKey) (p : List Pair) (key : Option PodKey) → GoesOn t p (at.Ended (Moved key))
moved_goes t p key = record { more = []; key = key; leads = refl }

choice : (t : TransferKey) (p : List Pair) (x : Stage) (f : Frame) → IsRestoring x → wants x ≡ AwaitNew → Choice t p (takes t p x f) f
choice t p (at.NewColumns key) f i w = refused_or (Going t p) (takes t p (at.NewColumns key) f) (at.NewRow key) (new_unexpected f) (names_test f) (takes_columns t p key f) (tt, row_goes t p key)
choice t p (at.NewRow key) f i w = refused_or (Going t p) (takes t p (at.NewRow key) f) (at.NewTag key) (new_unexpected f) (row_test f) (takes_row t p key f) (tt, tag_goes t p key)
choice t p (at.NewTag key) f i w = refused_or (Going t p) (takes t p (at.NewTag key) f) (at.NewReady key) (new_unexpected f) (tag_test f) (takes_tag t p key f) (tt, ready_goes t p key)
choice t p (at.NewReady key) f i w = refused_or (Going t p) (takes t p (at.NewReady key) f) (at.Ended (Moved key)) (new_unexpected f) (is_ready_idle f) (takes_ready t p key f) (tt, moved_goes t p key)
choice t p (at.Ended o) f i w = absurd cc
choice t p at.AskOld f i w = absurd i
choice t p at.OldColumns f i w = absurd i
choice t p at.OldRow f i w = absurd i
choice t p (at.OldTag s) f i w = absurd i
choice t p (at.OldReady s) f i w = absurd i
choice t p (at.Dial state token) f i w = absurd i
choice t p (at.Packet state token) f i w = absurd i
choice t p (at.NewAuth state) f i w = absurd i
choice t p (at.NewStatus state n key) f i w = absurd i
choice t p (at.Restore state key) f i w = absurd i

stays : (t : TransferKey) (p : List Pair) (z : Stage) (f : Frame) → Choice t p z f → IsRestoring z
stays t p z f (inl e) = subst IsRestoring (sym e) tt
stays t p z f (inr g) = g.0

reached : (t : TransferKey) (p : List Pair) (x : Stage) (before : List Frame) (y : Stage) → IsRestoring x → Leads AwaitNew t p x before y → IsRestoring y
reached t p x [] y i h = subst IsRestoring h i
reached t p x (f ∷ before) y i h = reached t p (takes t p x f) before y (stays t p (takes t p x f) f (choice t p x f i h.0)) h.1

pub goes_on : RestoredGoesOn
goes_on t p key before x came =
    let g = goes t p x (reached t p (at.NewColumns key) before x tt came.0) came.1 in
    (g.more, (restored_led t p key g.key (before ++ g.more) (joined AwaitNew t p (at.NewColumns key) before x g.more (at.Ended (Moved g.key)) came.0 g.leads)).1)

-- ---- a frame is refused exactly where no accepted reply has it

abbrev IsNowhere : List Frame → Frame → Type 0
IsNowhere before f = (more : List Frame) → ¬ AcceptsRestored (before ++ f ∷ more)

nowhere : (t : TransferKey) (p : List Pair) (key : Option PodKey) (before : List Frame) (x : Stage) (f : Frame) → Leads AwaitNew t p (at.NewColumns key) before x → takes t p x f ≡ new_unexpected f → IsNowhere before f
nowhere t p key before x f h e more a =
    let led = behind AwaitNew t p (at.NewColumns key) before x (f ∷ more) (at.Ended (Moved key)) h (restored_leads t p key (before ++ f ∷ more) a) in
    let over = stuck AwaitNew t p (new_unexpected f) more (at.Ended (Moved key)) (is_left f) (subst (λ (z : Stage). Leads AwaitNew t p z more (at.Ended (Moved key))) e led.1) in
    not_refused f key over.1

refuses_by : (t : TransferKey) (p : List Pair) (key : Option PodKey) (before : List Frame) (x : Stage) (f : Frame) → Leads AwaitNew t p (at.NewColumns key) before x → wants x ≡ AwaitNew → Choice t p (takes t p x f) f → IsNowhere before f → takes t p x f ≡ new_unexpected f
refuses_by t p key before x f h w (inl e) none = e
refuses_by t p key before x f h w (inr c) none =
    let g = c.1 in
    absurd (none g.more (restored_led t p key g.key (before ++ f ∷ g.more) (joined AwaitNew t p (at.NewColumns key) before x (f ∷ g.more) (at.Ended (Moved g.key)) h (w, g.leads))).1)

pub unexpected : RestoredStops
unexpected t p key before x f came =
    (nowhere t p key before x f came.0, refuses_by t p key before x f came.0 came.1 (choice t p x f (reached t p (at.NewColumns key) before x tt came.0) came.1))

-- ---- the greeting and the reply together

pub in_parts : NewPodLeads
in_parts t p state fs key = (
  λ h. record {
    greeting = h.greeting;
    reply = h.reply;
    whole = h.whole;
    greets = ((greeting.accepted t p state h.greeting state key).0 h.greets).1;
    restores = (restored_led t p key key h.reply h.restores).1;
  },
  λ a. record {
    greeting = a.greeting;
    reply = a.reply;
    whole = a.whole;
    greets = (greeting.accepted t p state a.greeting state key).1 (refl, a.greets);
    restores = restored_leads t p key a.reply a.restores;
  },
)
