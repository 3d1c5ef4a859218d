-- The old pod's reply: the stages take what is accepted.
use Rattle.std.proofs.Common.{◌≡◌, ◌<◌, ℕ, zero, suc, Bool, true, List, [], ◌∷◌, ◌++◌, Option, Some, None, refl, sym, ap, ◌∙◌, subst, ◌⊎◌, inl, inr, arith}
use Rattle.std.specs.Prelude.{if◌then◌else◌, codes}
use Rattle.std.specs.Str.{bytes_eq, is_utf8}
use Rattle.std.proofs.lemmas.List.{length-append}
use Rattle.std.proofs.lemmas.Slice.Eq.{bytes_eq-Decides}
use Rattle.pgw_frames.specs.declared.frame.Frame.{Frame}
use Rattle.pgw_messages.specs.declared.params.Pair.{Pair}
use Rattle.session_model.specs.Texts.{ready, row, transfer_tag, transfer_columns, key_digits}
use Rattle.session_model.specs.declared.transfer.TransferKey.{TransferKey}
use Rattle.transfer_stages.specs.Accepts.{AcceptsOld, FitsReady}
use Rattle.transfer_stages.specs.Taking.{Leads, end_of, OldReplyLeads, OldReplyStops, OldReplyGoesOn}
use Rattle.transfer_stages.specs.Exchange.{wants, takes, said, is_tag, is_ready, is_ready_idle, transfer_names, old_unexpected, row_said}
use Rattle.transfer_stages.specs.Rows.{has_names, row_of}
use Rattle.transfer_stages.specs.declared.stage.Said.{Said}
use Rattle.transfer_stages.specs.declared.stage.Said.TheVariants.{Given, Refuses}
use Rattle.transfer_stages.specs.declared.stage.Stage.{Stage}
use Rattle.transfer_stages.specs.declared.stage.Stage.TheVariants as at
use Rattle.transfer_stages.specs.declared.stage.Want.TheVariants.{AwaitOld, Dial, Ended}
use Rattle.transfer_stages.proofs.Columns.{transfer_named, text_of_ascii}
use Rattle.transfer_stages.proofs.Saying.{row_read, length-key_digits}
use Rattle.transfer_stages.proofs.Leading.{stuck, step, step_back, behind, joined, refused_or}

-- ---- ends

-- no end stands where the old pod is awaited
not_end : (x : Stage) (s : Said) → wants x ≡ AwaitOld → ¬ (x ≡ end_of s)
not_end x (Given state token) w e = let v : wants x ≡ Dial = ap wants e in cc
not_end x (Refuses reason) w e = let v : wants x ≡ Ended = ap wants e in cc

-- a refused frame is no end that is sought
not_refused : (f : Frame) (s : Said) → ¬ (old_unexpected f ≡ end_of s)
not_refused f (Given state token) e = cc
not_refused f (Refuses reason) e = cc

is_left : (f : Frame) → ¬ (wants (old_unexpected f) ≡ AwaitOld)
is_left f e = cc

end_left : (s : Said) → ¬ (wants (end_of s) ≡ AwaitOld)
end_left (Given state token) e = cc
end_left (Refuses reason) e = cc

end_same : (r s : Said) → end_of r ≡ end_of s → r ≡ s
end_same (Given state token) (Given other more) e = cc
end_same (Given state token) (Refuses reason) e = absurd cc
end_same (Refuses reason) (Given state token) e = absurd cc
end_same (Refuses reason) (Refuses other) e = cc

-- ---- the ready

abbrev ready_test : Said → Frame → Bool
ready_test (Given state token) f = is_ready_idle f
ready_test (Refuses reason) f = is_ready f

takes_ready : (t : TransferKey) (p : List Pair) (s : Said) (f : Frame) → takes t p (at.OldReady s) f ≡ (if ready_test s f then end_of s else old_unexpected f)
unfolding takes
takes_ready t p (Given state token) f = refl
takes_ready t p (Refuses reason) f = refl

fits_tested : (s : Said) (f : Frame) → FitsReady s f → ready_test s f ≡ true
fits_tested (Given state token) f h = h
fits_tested (Refuses reason) f h = h

tested_fits : (s : Said) (f : Frame) → ready_test s f ≡ true → FitsReady s f
tested_fits (Given state token) f h = h
tested_fits (Refuses reason) f h = h

record Ready (r s : Said) (fs : List Frame) : Type 0 where
  f : Frame
  whole : fs ≡ f ∷ []
  same : r ≡ s
  fits : FitsReady r f

ready_led : (t : TransferKey) (p : List Pair) (r s : Said) (fs : List Frame) → Leads AwaitOld t p (at.OldReady r) fs (end_of s) → Ready r s fs
ready_led t p r s [] h = absurd (not_end (at.OldReady r) s refl h)
ready_led t p r s (f ∷ fs) h =
    let led = step AwaitOld t p (at.OldReady r) f fs (end_of s) (end_of r) (old_unexpected f) (ready_test r f) (takes_ready t p r f) (is_left f) (not_refused f s) h in
    let over = stuck AwaitOld t p (end_of r) fs (end_of s) (end_left r) led.1 in
    record { f = f; whole = ap (λ (gs : List Frame). f ∷ gs) over.0; same = end_same r s over.1; fits = tested_fits r f led.0 }

ready_leads : (t : TransferKey) (p : List Pair) (s : Said) (f : Frame) → FitsReady s f → Leads AwaitOld t p (at.OldReady s) (f ∷ []) (end_of s)
ready_leads t p s f fits = step_back AwaitOld t p (at.OldReady s) f [] (end_of s) (end_of s) (old_unexpected f) (ready_test s f) (takes_ready t p s f) refl (fits_tested s f fits) refl

-- ---- the tag

tag_test : Frame → Bool
tag_test f = is_tag (codes "SHOW TRANSFER STATE 1") f

takes_tag : (t : TransferKey) (p : List Pair) (s : Said) (f : Frame) → takes t p (at.OldTag s) f ≡ (if tag_test f then at.OldReady s else old_unexpected f)
unfolding takes tag_test
takes_tag t p s f = refl

record Tagged (r s : Said) (fs : List Frame) : Type 0 where
  f : Frame
  ready : Frame
  whole : fs ≡ f ∷ ready ∷ []
  done : tag_test f ≡ true
  same : r ≡ s
  fits : FitsReady r ready

tag_led : (t : TransferKey) (p : List Pair) (r s : Said) (fs : List Frame) → Leads AwaitOld t p (at.OldTag r) fs (end_of s) → Tagged r s fs
tag_led t p r s [] h = absurd (not_end (at.OldTag r) s refl h)
tag_led t p r s (f ∷ fs) h =
    let led = step AwaitOld t p (at.OldTag r) f fs (end_of s) (at.OldReady r) (old_unexpected f) (tag_test f) (takes_tag t p r f) (is_left f) (not_refused f s) h in
    let others = ready_led t p r s fs led.1 in
    record { f = f; ready = others.f; whole = ap (λ (gs : List Frame). f ∷ gs) others.whole; done = led.0; same = others.same; fits = others.fits }

tag_leads : (t : TransferKey) (p : List Pair) (s : Said) (f ready : Frame) → tag_test f ≡ true → FitsReady s ready → Leads AwaitOld t p (at.OldTag s) (f ∷ ready ∷ []) (end_of s)
tag_leads t p s f ready done fits = step_back AwaitOld t p (at.OldTag s) f (ready ∷ []) (end_of s) (at.OldReady s) (old_unexpected f) (tag_test f) (takes_tag t p s f) refl done (ready_leads t p s ready fits)

-- ---- the row

record Told (t : TransferKey) (p : List Pair) (s : Said) (fs : List Frame) : Type 0 where
  f : Frame
  tag : Frame
  ready : Frame
  whole : fs ≡ f ∷ tag ∷ ready ∷ []
  says : said t p (row_of f) ≡ Some s
  done : tag_test tag ≡ true
  fits : FitsReady s ready

takes_row : (t : TransferKey) (p : List Pair) (f : Frame) → takes t p at.OldRow f ≡ row_said f (said t p (row_of f))
unfolding takes
takes_row t p f = refl

row_led_by : (t : TransferKey) (p : List Pair) (s : Said) (f : Frame) (fs : List Frame) (o : Option Said) → said t p (row_of f) ≡ o → Leads AwaitOld t p (row_said f o) fs (end_of s) → Told t p s (f ∷ fs)
row_led_by t p s f fs None e h = absurd (not_refused f s (stuck AwaitOld t p (old_unexpected f) fs (end_of s) (is_left f) h).1)
row_led_by t p s f fs (Some r) e h =
    let others = tag_led t p r s fs h in
    record {
      f = f;
      tag = others.f;
      ready = others.ready;
      whole = ap (λ (gs : List Frame). f ∷ gs) others.whole;
      says = e ∙ ap Some others.same;
      done = others.done;
      fits = subst (λ (v : Said). FitsReady v others.ready) others.same others.fits;
    }

row_led : (t : TransferKey) (p : List Pair) (s : Said) (fs : List Frame) → Leads AwaitOld t p at.OldRow fs (end_of s) → Told t p s fs
row_led t p s [] h = absurd (not_end at.OldRow s refl h)
row_led t p s (f ∷ fs) h = row_led_by t p s f fs (said t p (row_of f)) refl (subst (λ (z : Stage). Leads AwaitOld t p z fs (end_of s)) (takes_row t p f) h.1)

row_leads : (t : TransferKey) (p : List Pair) (s : Said) (f tag ready : Frame) → said t p (row_of f) ≡ Some s → tag_test tag ≡ true → FitsReady s ready → Leads AwaitOld t p at.OldRow (f ∷ tag ∷ ready ∷ []) (end_of s)
row_leads t p s f tag ready says done fits =
    let to : takes t p at.OldRow f ≡ at.OldTag s = takes_row t p f ∙ ap (row_said f) says in
    (refl, subst (λ (z : Stage). Leads AwaitOld t p z (tag ∷ ready ∷ []) (end_of s)) (sym to) (tag_leads t p s tag ready done fits))

-- ---- the columns, and so the whole reply

names_test : Frame → Bool
names_test f = has_names transfer_names f

takes_columns : (t : TransferKey) (p : List Pair) (f : Frame) → takes t p at.OldColumns f ≡ (if names_test f then at.OldRow else old_unexpected f)
unfolding takes names_test
takes_columns t p f = refl

old_led : (t : TransferKey) (p : List Pair) (s : Said) (fs : List Frame) → Leads AwaitOld t p at.OldColumns fs (end_of s) → AcceptsOld t p fs s
unfolding names_test tag_test
old_led t p s [] h = absurd (not_end at.OldColumns s refl h)
old_led t p s (f ∷ fs) h =
    let led = step AwaitOld t p at.OldColumns f fs (end_of s) at.OldRow (old_unexpected f) (names_test f) (takes_columns t p f) (is_left f) (not_refused f s) h in
    let others = row_led t p s fs led.1 in
    record {
      columns = f;
      values = others.f;
      tag = others.tag;
      ready = others.ready;
      whole = ap (λ (gs : List Frame). f ∷ gs) others.whole;
      named = led.0;
      says = others.says;
      ends = others.done;
      fits = others.fits;
    }

old_leads : (t : TransferKey) (p : List Pair) (s : Said) (fs : List Frame) → AcceptsOld t p fs s → Leads AwaitOld t p at.OldColumns fs (end_of s)
unfolding names_test tag_test
old_leads t p s fs a =
    let others = row_leads t p s a.values a.tag a.ready a.says a.ends a.fits in
    subst (λ (gs : List Frame). Leads AwaitOld t p at.OldColumns gs (end_of s)) (sym a.whole)
    (step_back AwaitOld t p at.OldColumns a.columns (a.values ∷ a.tag ∷ a.ready ∷ []) (end_of s) at.OldRow (old_unexpected a.columns) (names_test a.columns) (takes_columns t p a.columns) refl a.named others)

pub accepted : OldReplyLeads
accepted t p fs s = (old_led t p s fs, old_leads t p s fs)

-- ---- each stage at which the old pod is awaited goes on to some end

record GoesOn (t : TransferKey) (p : List Pair) (x : Stage) : Type 0 where
  more : List Frame
  s : Said
  leads : Leads AwaitOld t p x more (end_of s)

idle : (s : Said) → FitsReady s (ready 73)
idle (Given state token) = refl
idle (Refuses reason) = refl

ready_goes : (t : TransferKey) (p : List Pair) (s : Said) → GoesOn t p (at.OldReady s)
ready_goes t p s = record { more = ready 73 ∷ []; s = s; leads = ready_leads t p s (ready 73) (idle s) }

tagged : tag_test transfer_tag ≡ true
unfolding tag_test transfer_tag
tagged = refl

tag_goes : (t : TransferKey) (p : List Pair) (s : Said) → GoesOn t p (at.OldTag s)
tag_goes t p s = record { more = transfer_tag ∷ ready 73 ∷ []; s = s; leads = tag_leads t p s transfer_tag (ready 73) tagged (idle s) }

-- a row that refuses
refusing : TransferKey → Frame
refusing t = row (codes "x" ∷ [] ∷ [] ∷ key_digits t ∷ [])

refusing_read : (t : TransferKey) → row_of (refusing t) ≡ Some (Some (codes "x") ∷ Some [] ∷ Some [] ∷ Some (key_digits t) ∷ [])
unfolding refusing
refusing_read t =
    row_read (codes "x") [] [] (key_digits t)
    (omega (arith, length-key_digits t, length-append (key_digits t) []))

an_x : is_utf8 (codes "x") ≡ true
an_x = (text_of_ascii (codes "x") refl refl).utf8

refusing_says : (t : TransferKey) (p : List Pair) → said t p (row_of (refusing t)) ≡ Some (Refuses (codes "x"))
refusing_says t p =
    let keyed : bytes_eq (key_digits t) (key_digits t) ≡ true = (bytes_eq-Decides (key_digits t) (key_digits t)).1 refl in
    ap (said t p) (refusing_read t) ∙ rw (keyed, an_x) refl

row_goes : (t : TransferKey) (p : List Pair) → GoesOn t p at.OldRow
row_goes t p = record {
  more = refusing t ∷ transfer_tag ∷ ready 73 ∷ [];
  s = Refuses (codes "x");
  leads = row_leads t p (Refuses (codes "x")) (refusing t) transfer_tag (ready 73) (refusing_says t p) tagged refl;
}

named : names_test transfer_columns ≡ true
unfolding names_test
named = transfer_named

columns_go : (t : TransferKey) (p : List Pair) → GoesOn t p at.OldColumns
columns_go t p =
    let others = row_goes t p in
    record {
      more = transfer_columns ∷ others.more;
      s = others.s;
      leads = step_back AwaitOld t p at.OldColumns transfer_columns others.more (end_of others.s) at.OldRow (old_unexpected transfer_columns) (names_test transfer_columns) (takes_columns t p transfer_columns) refl named others.leads;
    }

end_goes : (t : TransferKey) (p : List Pair) (s : Said) → GoesOn t p (end_of s)
end_goes t p s = record { more = []; s = s; leads = refl }

goes : (t : TransferKey) (p : List Pair) (x : Stage) → wants x ≡ AwaitOld → GoesOn t p x
goes t p at.OldColumns w = columns_go t p
goes t p at.OldRow w = row_goes t p
goes t p (at.OldTag s) w = tag_goes t p s
goes t p (at.OldReady s) w = ready_goes t p s
goes t p at.AskOld w = absurd cc
goes t p (at.Dial state token) w = absurd cc
goes t p (at.Packet state token) w = absurd cc
goes t p (at.NewAuth state) w = absurd cc
goes t p (at.NewStatus state n key) w = absurd cc
goes t p (at.Restore state key) w = absurd cc
goes t p (at.NewColumns key) w = absurd cc
goes t p (at.NewRow key) w = absurd cc
goes t p (at.NewTag key) w = absurd cc
goes t p (at.NewReady key) w = absurd cc
goes t p (at.Ended o) w = absurd cc

pub goes_on : OldReplyGoesOn
goes_on t p before x came =
    let g = goes t p x came.1 in
    (g.more, (g.s, old_led t p g.s (before ++ g.more) (joined AwaitOld t p at.OldColumns before x g.more (end_of g.s) came.0 g.leads)))

-- ---- a frame is refused exactly where no accepted reply has it

abbrev Choice : TransferKey → List Pair → Stage → Frame → Type 0
Choice t p z f = (z ≡ old_unexpected f) ⊎ GoesOn t p z

row_choice : (t : TransferKey) (p : List Pair) (f : Frame) (o : Option Said) → Choice t p (row_said f o) f
row_choice t p f None = inl refl
row_choice t p f (Some s) = inr (tag_goes t p s)

choice : (t : TransferKey) (p : List Pair) (x : Stage) (f : Frame) → wants x ≡ AwaitOld → Choice t p (takes t p x f) f
choice t p at.OldColumns f w = refused_or (GoesOn t p) (takes t p at.OldColumns f) at.OldRow (old_unexpected f) (names_test f) (takes_columns t p f) (row_goes t p)
choice t p at.OldRow f w = subst (λ (z : Stage). Choice t p z f) (sym (takes_row t p f)) (row_choice t p f (said t p (row_of f)))
choice t p (at.OldTag s) f w = refused_or (GoesOn t p) (takes t p (at.OldTag s) f) (at.OldReady s) (old_unexpected f) (tag_test f) (takes_tag t p s f) (ready_goes t p s)
choice t p (at.OldReady s) f w = refused_or (GoesOn t p) (takes t p (at.OldReady s) f) (end_of s) (old_unexpected f) (ready_test s f) (takes_ready t p s f) (end_goes t p s)
choice t p at.AskOld f w = absurd cc
choice t p (at.Dial state token) f w = absurd cc
choice t p (at.Packet state token) f w = absurd cc
choice t p (at.NewAuth state) f w = absurd cc
choice t p (at.NewStatus state n key) f w = absurd cc
choice t p (at.Restore state key) f w = absurd cc
choice t p (at.NewColumns key) f w = absurd cc
choice t p (at.NewRow key) f w = absurd cc
choice t p (at.NewTag key) f w = absurd cc
choice t p (at.NewReady key) f w = absurd cc
choice t p (at.Ended o) f w = absurd cc

abbrev IsNowhere : TransferKey → List Pair → List Frame → Frame → Type 0
IsNowhere t p before f = (more : List Frame) (s : Said) → ¬ AcceptsOld t p (before ++ f ∷ more) s

nowhere : (t : TransferKey) (p : List Pair) (before : List Frame) (x : Stage) (f : Frame) → Leads AwaitOld t p at.OldColumns before x → takes t p x f ≡ old_unexpected f → IsNowhere t p before f
nowhere t p before x f h e more s a =
    let led = behind AwaitOld t p at.OldColumns before x (f ∷ more) (end_of s) h (old_leads t p s (before ++ f ∷ more) a) in
    let over = stuck AwaitOld t p (old_unexpected f) more (end_of s) (is_left f) (subst (λ (z : Stage). Leads AwaitOld t p z more (end_of s)) e led.1) in
    not_refused f s over.1

refuses_by : (t : TransferKey) (p : List Pair) (before : List Frame) (x : Stage) (f : Frame) → Leads AwaitOld t p at.OldColumns before x → wants x ≡ AwaitOld → Choice t p (takes t p x f) f → IsNowhere t p before f → takes t p x f ≡ old_unexpected f
refuses_by t p before x f h w (inl e) none = e
refuses_by t p before x f h w (inr g) none =
    absurd (none g.more g.s (old_led t p g.s (before ++ f ∷ g.more) (joined AwaitOld t p at.OldColumns before x (f ∷ g.more) (end_of g.s) h (w, g.leads))))

pub unexpected : OldReplyStops
unexpected t p before x f came = (nowhere t p before x f came.0, refuses_by t p before x f came.0 came.1 (choice t p x f came.1))
