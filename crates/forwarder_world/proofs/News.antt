-- What happens to the new link keeps what holds.
use Rattle.std.proofs.Common.{◌≡◌, ℕ, ◌+◌, ◌-◌, true, false, List, [], ◌∷◌, ◌++◌, length, take, Option, Some, None, refl, sym, ap, subst, ◌∙◌, inl, inr}
use Rattle.std.specs.Prelude.{slice_get, nat_lt, not, ◌&&◌}
use Rattle.std.specs.List.{AllByRecursion}
use Rattle.std.proofs.lemmas.Bool.{cond_both}
use Rattle.std.proofs.Math.Seq.{take-nil}
use Rattle.pgw_frames.specs.declared.frame.Frame.{Frame}
use Rattle.pgw_frames.specs.Frames.{render, frames, IsGood}
use Rattle.pgw_frames.proofs.Fronts.{frames_nil}
use Rattle.proxy_outside.specs.Rules.{Rules}
use Rattle.pgw_messages.specs.Startup.{Fits}
use Rattle.session_model.specs.Kind.{Kind, Answers}
use Rattle.session_model.specs.Laws.{Laws}
use Rattle.session_model.specs.Texts.{restore_query, restore_reply}
use Rattle.pgw_messages.specs.declared.params.Pair.{Pair}
use Rattle.session_model.specs.declared.transfer.TransferKey.{TransferKey}
use Rattle.transfer_stages.proofs.Saying.{restore_good}
use Rattle.pgw_messages.specs.declared.pod_key.PodKey.{PodKey}
use Rattle.transfer_stages.specs.declared.stage.Stage.{Stage}
use Rattle.transfer_stages.specs.declared.stage.Stage.TheVariants as at
use Rattle.session_model.specs.Solo.{store_after, answer_to, told}
use Rattle.forwarder_world.specs.Link as link
use Rattle.forwarder_world.specs.Link.{Link}
use Rattle.forwarder_world.specs.World.{World, Mode, Running, Stop, Exchanging, Closed, changes_new, new_hears, new_pod_by, new_pod, is_closed}
use Rattle.proxy_outside.specs.declared.identity.ClientKey.{ClientKey}
use Rattle.forwarder_world.proofs.Links.{Gets, sends_next, sends_take, gets_grow, gets_cut}
use Rattle.forwarder_world.proofs.Keeps.{Parts, View, view, Keeps}
use Rattle.forwarder_world.proofs.Within.{Face, face, HasBlob, NewAt, AtStage, InMode, Holds, AtStartup, Waiting, Restored, RestoredSome}

-- nothing comes out of nothing
no_next : (n i : ℕ) (f : Frame) → slice_get (frames (take n [])) i ≡ Some f → ⊥
no_next n i f e = let g : slice_get (frames []) i ≡ Some f = subst (λ (t : List ℕ). slice_get (frames t) i ≡ Some f) (take-nil n) e in let h : slice_get [] i ≡ Some f = subst (λ (t : List Frame). slice_get t i ≡ Some f) frames_nil g in absurd cc

module _ {S T C R : Type 0} (k : Kind S C R) (rules : Rules T C R) (kept : S → Type 0) (laws : Laws k rules kept) (key : ClientKey) (p : List Pair) (fits : Fits p) where
  abbrev H : World S T C → Type 0
  H w = Holds k rules kept key p w

  abbrev M : Parts S → Option (Link S) → Mode → Type 0
  M q fresh mode = InMode k p q fresh mode

  -- a change of the new link that every stage bears
  abbrev Bears : S → Face S → Face S → Type 0
  Bears s v u = (x : Stage) → NewAt k p s x v → NewAt k p s x u

  stage_changes : (q : Parts S) (t : TransferKey) (l m : Link S) (x : Stage) → Bears q.session (face l) (face m) → AtStage k p t q (Some l) x → AtStage k p t q (Some m) x
  stage_changes q t l m x bears a = record { calm = a.calm; old = a.old; new = λ n e. let same : m ≡ n = cc in subst (λ (y : Link S). NewAt k p q.session x (face y)) same (bears x (a.new l refl)) }

  mode_changes : (q : Parts S) (l m : Link S) (mode : Mode) → Bears q.session (face l) (face m) → M q (Some l) mode → M q (Some m) mode
  mode_changes q l m Running bears a = absurd (a.1 l refl)
  mode_changes q l m (Stop x y) bears a = absurd (a.1 l refl)
  mode_changes q l m (Exchanging t x) bears a = stage_changes q t l m x bears a
  mode_changes q l m (Closed c) bears a = a

  pub changes_hold : (w : World S T C) (h : H w) (l m : Link S) → w.fresh ≡ Some l → Bears h.parts.session (face l) (face m) → H (record w { fresh = Some m })
  changes_hold w h l m e bears = record {
    parts = h.parts;
    keeps = h.keeps;
    within = mode_changes h.parts l m w.mode bears (subst (λ (o : Option (Link S)). M h.parts o w.mode) e h.within);
  }

  pub change_holds : (w : World S T C) (change : Link S → Link S) (o : Option (Link S)) → w.fresh ≡ o → ((l : Link S) (s : S) → Bears s (face l) (face (change l))) → H w → H (changes_new w change o)
  change_holds w change None e bears h = h
  change_holds w change (Some l) e bears h = cond_both l.cut w (record w { fresh = Some (change l) }) (λ v. H v) (λ c. h) (λ c. changes_hold w h l (change l) e (bears l h.parts.session))

  -- ---- cut

  cut_restored : (v : Face S) (n : ℕ) (s : S) (left : List Frame) → RestoredSome v s left → RestoredSome (record v { got = take n v.got; cut = true }) s left
  cut_restored v n s left r = (r.0, r.1, record { sends = r.2.sends; gets = gets_cut n v.got v.cut v.out r.1 left r.2.gets; session_is = r.2.session_is })

  cut_startup : (v : Face S) (n : ℕ) → AtStartup k p v → AtStartup k p (record v { got = take n v.got; cut = true })
  cut_startup v n (inl u) = inl (record { sent_is = u.sent_is; heard_is = u.heard_is; got_is = rw u.got_is (take-nil n); out_is = u.out_is; session_is = u.session_is })
  cut_startup v n (inr g) = inr (g.0, g.1, record { sent_is = g.2.sent_is; heard_is = g.2.heard_is; whole = g.2.whole; gets = gets_cut n v.got v.cut v.out g.0 g.1 g.2.gets; session_is = g.2.session_is })

  cut_bears : (s : S) (v : Face S) (n : ℕ) → Bears s v (record v { got = take n v.got; cut = true })
  cut_bears s v n at.AskOld a = a
  cut_bears s v n at.OldColumns a = a
  cut_bears s v n at.OldRow a = a
  cut_bears s v n (at.OldTag x) a = a
  cut_bears s v n (at.OldReady x) a = a
  cut_bears s v n (at.Dial b token) a = a
  cut_bears s v n (at.Packet b token) a = cut_startup v n a
  cut_bears s v n (at.NewAuth b) a = cut_startup v n a
  cut_bears s v n (at.NewStatus b m n_key) a = cut_startup v n a
  cut_bears s v n (at.Restore b n_key) a = (a.0, record { sent_is = a.1.sent_is; heard_is = a.1.heard_is; whole = a.1.whole; gets = gets_cut n v.got v.cut v.out a.0 [] a.1.gets; session_is = a.1.session_is })
  cut_bears s v n (at.NewColumns n_key) a =
      elim a [
        | inl g ↦ inl (g.0, g.1, g.2, record { sends = g.3.sends; gets = gets_cut n v.got v.cut v.out g.1 [] g.3.gets; session_is = g.3.session_is })
        | inr r ↦ inr (cut_restored v n s restore_reply r)
      ]
  cut_bears s v n (at.NewRow n_key) a = cut_restored v n s _ a
  cut_bears s v n (at.NewTag n_key) a = cut_restored v n s _ a
  cut_bears s v n (at.NewReady n_key) a = cut_restored v n s _ a
  cut_bears s v n (at.Ended o) a = a

  pub cut_new_holds : (w : World S T C) (n : ℕ) → H w → H (changes_new w (λ l. link.cuts l n) w.fresh)
  cut_new_holds w n h = change_holds w (λ l. link.cuts l n) w.fresh refl (λ l s. cut_bears s (face l) (l.back + n)) h

  pub deliver_new_holds : (w : World S T C) (n : ℕ) → H w → H (changes_new w (λ l. link.delivers l n) w.fresh)
  deliver_new_holds w n h = change_holds w (λ l. link.delivers l n) w.fresh refl (λ l s x a. a) h

  -- ---- the pod takes the startup packet

  open_startup : (v : Face S) → v.cut ≡ false → v.session ≡ None → AtStartup k p v → AtStartup k p (record v { got = v.got ++ render (k.begins p).1; session = Some (k.begins p).0 })
  open_startup v uncut none (inl u) =
      let gets : Gets v.got v.cut v.out [] [] = rw (u.got_is, u.out_is) (record { begins = ([], refl); whole = λ c. refl; got_good = tt; out_is = refl }) in
      inr ([], (k.begins p).1, record { sent_is = u.sent_is; heard_is = u.heard_is; whole = refl; gets = gets_grow v.got v.cut v.out [] [] (k.begins p).1 uncut (laws.begin_fits p fits).1 gets; session_is = refl })
  open_startup v uncut none (inr g) = absurd (let e = g.2.session_is in cc)

  open_bears : (s : S) (v : Face S) → v.cut ≡ false → v.session ≡ None → Bears s v (record v { got = v.got ++ render (k.begins p).1; session = Some (k.begins p).0 })
  open_bears s v uncut none at.AskOld a = a
  open_bears s v uncut none at.OldColumns a = a
  open_bears s v uncut none at.OldRow a = a
  open_bears s v uncut none (at.OldTag x) a = a
  open_bears s v uncut none (at.OldReady x) a = a
  open_bears s v uncut none (at.Dial b token) a = a
  open_bears s v uncut none (at.Packet b token) a = open_startup v uncut none a
  open_bears s v uncut none (at.NewAuth b) a = open_startup v uncut none a
  open_bears s v uncut none (at.NewStatus b m n_key) a = open_startup v uncut none a
  open_bears s v uncut none (at.Restore b n_key) a = absurd (let e = a.1.session_is in cc)
  open_bears s v uncut none (at.NewColumns n_key) a =
      absurd (elim a [
        | inl g ↦ let e = g.3.session_is in cc
        | inr r ↦ let e = r.2.session_is in cc
      ])
  open_bears s v uncut none (at.NewRow n_key) a = absurd (let e = a.2.session_is in cc)
  open_bears s v uncut none (at.NewTag n_key) a = absurd (let e = a.2.session_is in cc)
  open_bears s v uncut none (at.NewReady n_key) a = absurd (let e = a.2.session_is in cc)
  open_bears s v uncut none (at.Ended o) a = a

  -- ---- the pod takes the restore Query, which asks nothing of the store

  pub keeps_store : (v : View S T C) (q : Parts S) (t : T) → v.store ≡ t → Keeps k rules kept key p v q → Keeps k rules kept key p (record v { store = t }) q
  keeps_store v q t e h = subst (λ (u : T). Keeps k rules kept key p (record v { store = u }) q) e h

  restored_now : (w : World S T C) (h : H w) (l : Link S) (x : S) (f : Frame) (u : TransferKey) (n_key : Option PodKey) (b : List ℕ) (gone more : List Frame) → w.fresh ≡ Some l → l.cut ≡ false → l.session ≡ Some x
      → w.mode ≡ Exchanging u (at.NewColumns n_key) → AtStage k p u h.parts w.fresh (at.NewColumns n_key) → HasBlob k h.parts.session b → Waiting k p (face l) b gone → restore_query b ∷ [] ≡ f ∷ more
      → H (new_hears k rules w l x (Some f))
  restored_now w h l x f u n_key b gone more e uncut so mode m blob wait at_head =
      let q : Parts S = h.parts in
      let is : restore_query b ≡ f = cc in
      let last : more ≡ [] = cc in
      let who : Some (k.begins p).0 ≡ Some x = sym wait.session_is ∙ so in
      let same : (k.begins p).0 ≡ x = cc in
      let r = laws.restores p q.session b h.keeps.life.was_begun m.calm.quiet blob.0 in
      let asks : k.asks x f ≡ None = subst (λ (y : S). k.asks y f ≡ None) same (subst (λ (g : Frame). k.asks (k.begins p).0 g ≡ None) is r.0) in
      let tells : k.tells x f None ≡ (q.session, restore_reply) = subst (λ (y : S). k.tells y f None ≡ (q.session, restore_reply)) same (subst (λ (g : Frame). k.tells (k.begins p).0 g None ≡ (q.session, restore_reply)) is r.1) in
      let both : told k rules x w.store f ≡ (q.session, restore_reply) = ap (λ (o : Option C). k.tells x f (answer_to rules w.store o)) asks ∙ tells in
      let store : w.store ≡ store_after rules w.store (k.asks x f) = sym (ap (λ (o : Option C). store_after rules w.store o) asks) in
      let good : IsGood f = subst (λ (g : Frame). IsGood g) is (restore_good b blob.1) in
      let first : kept x = subst kept same (laws.begin_fits p fits).0 in
      let told_fits = laws.tell_fits x f None first good (subst (λ (o : Option C). Answers rules o None) (sym asks) tt) in
      let replies : AllByRecursion IsGood restore_reply = subst (λ (z : S × List Frame). AllByRecursion IsGood z.1) tells told_fits.1 in
      let after : Restored (face (link.hears k rules l x w.store f)) q.session b gone restore_reply = record {
        sends = sends_take l.sent l.taken [] [] (restore_query b) wait.sends;
        gets = subst (λ (z : S × List Frame). Gets (l.got ++ render z.1) l.cut l.out gone restore_reply) (sym both) (gets_grow l.got l.cut l.out gone [] restore_reply uncut replies wait.gets);
        session_is = ap (λ (z : S × List Frame). Some z.0) both;
      } in
      let next : Option (Link S) = Some (link.hears k rules l x w.store f) in
      let stage : AtStage k p u q next (at.NewColumns n_key) = record {
        calm = m.calm;
        old = m.old;
        new = λ n e'. let eq : link.hears k rules l x w.store f ≡ n = cc in subst (λ (y : Link S). NewAt k p q.session (at.NewColumns n_key) (face y)) eq (inr (b, gone, after));
      } in
      record {
        parts = q;
        keeps = keeps_store (view w) q (store_after rules w.store (k.asks x f)) store h.keeps;
        within = subst (λ (y : Mode). M q next y) (sym mode) stage;
      }

  no_restored : (v : Face S) (n : ℕ) (s : S) (left : List Frame) (f : Frame) → RestoredSome v s left → slice_get (frames (take n v.sent)) v.heard ≡ Some f → ⊥
  no_restored v n s left f r e = let g = sends_next n v.sent v.heard (restore_query r.0 ∷ []) [] f r.2.sends e in let h = g.1 in absurd cc

  no_startup : (v : Face S) (n : ℕ) (x : S) (f : Frame) → AtStartup k p v → v.session ≡ Some x → slice_get (frames (take n v.sent)) v.heard ≡ Some f → ⊥
  no_startup v n x f (inl u) so e = let g = u.session_is in absurd cc
  no_startup v n x f (inr g) so e = no_next n v.heard f (subst (λ (t : List ℕ). slice_get (frames (take n t)) v.heard ≡ Some f) g.2.sent_is e)

  hear_stage : (w : World S T C) (h : H w) (l : Link S) (x : S) (f : Frame) (u : TransferKey) (stage : Stage) → w.fresh ≡ Some l → l.cut ≡ false → l.session ≡ Some x → link.next_to_pod l ≡ Some f
      → w.mode ≡ Exchanging u stage → AtStage k p u h.parts w.fresh stage → H (new_hears k rules w l x (Some f))
  hear_stage w h l x f u at.AskOld e uncut so n mode m = absurd (m.new l e)
  hear_stage w h l x f u at.OldColumns e uncut so n mode m = absurd (m.new l e)
  hear_stage w h l x f u at.OldRow e uncut so n mode m = absurd (m.new l e)
  hear_stage w h l x f u (at.OldTag y) e uncut so n mode m = absurd (m.new l e)
  hear_stage w h l x f u (at.OldReady y) e uncut so n mode m = absurd (m.new l e)
  hear_stage w h l x f u (at.Dial b token) e uncut so n mode m = absurd (m.new l e)
  hear_stage w h l x f u (at.Packet b token) e uncut so n mode m = absurd (no_startup (face l) (l.delivered - length l.startup) x f (m.new l e) so n)
  hear_stage w h l x f u (at.NewAuth b) e uncut so n mode m = absurd (no_startup (face l) (l.delivered - length l.startup) x f (m.new l e) so n)
  hear_stage w h l x f u (at.NewStatus b c n_key) e uncut so n mode m = absurd (no_startup (face l) (l.delivered - length l.startup) x f (m.new l e) so n)
  hear_stage w h l x f u (at.Restore b n_key) e uncut so n mode m =
      let g = m.new l e in
      absurd (no_startup (face l) (l.delivered - length l.startup) x f (inr (g.0, [], g.1)) so n)
  hear_stage w h l x f u (at.NewColumns n_key) e uncut so n mode m =
      elim (m.new l e) [
        | inl g ↦
            let r = sends_next (l.delivered - length l.startup) l.sent l.taken [] (restore_query g.0 ∷ []) f g.3.sends n in
            restored_now w h l x f u n_key g.0 g.1 r.0 e uncut so mode m g.2 g.3 r.1
        | inr r ↦ absurd (no_restored (face l) (l.delivered - length l.startup) h.parts.session restore_reply f r n)
      ]
  hear_stage w h l x f u (at.NewRow n_key) e uncut so n mode m = absurd (no_restored (face l) (l.delivered - length l.startup) h.parts.session _ f (m.new l e) n)
  hear_stage w h l x f u (at.NewTag n_key) e uncut so n mode m = absurd (no_restored (face l) (l.delivered - length l.startup) h.parts.session _ f (m.new l e) n)
  hear_stage w h l x f u (at.NewReady n_key) e uncut so n mode m = absurd (no_restored (face l) (l.delivered - length l.startup) h.parts.session _ f (m.new l e) n)
  hear_stage w h l x f u (at.Ended o) e uncut so n mode m = absurd (m.new l e)

  hear_mode : (w : World S T C) (h : H w) (l : Link S) (x : S) (f : Frame) (mode : Mode) → is_closed mode ≡ false → w.fresh ≡ Some l → l.cut ≡ false → l.session ≡ Some x → link.next_to_pod l ≡ Some f
      → w.mode ≡ mode → M h.parts w.fresh mode → H (new_hears k rules w l x (Some f))
  hear_mode w h l x f Running o e uncut so n mode m = absurd (m.1 l e)
  hear_mode w h l x f (Stop a b) o e uncut so n mode m = absurd (m.1 l e)
  hear_mode w h l x f (Exchanging u stage) o e uncut so n mode m = hear_stage w h l x f u stage e uncut so n mode m
  hear_mode w h l x f (Closed c) o e uncut so n mode m = absurd cc

  hears_holds : (w : World S T C) (h : H w) (l : Link S) (x : S) (o : Option Frame) → is_closed w.mode ≡ false → w.fresh ≡ Some l → l.cut ≡ false → l.session ≡ Some x → link.next_to_pod l ≡ o → H (new_hears k rules w l x o)
  hears_holds w h l x None c e uncut so n = h
  hears_holds w h l x (Some f) c e uncut so n = hear_mode w h l x f w.mode c e uncut so n refl h.within

  same_fresh : (w : World S T C) (h : H w) (l : Link S) → w.fresh ≡ Some l → H (record w { fresh = Some l })
  same_fresh w h l e = record { parts = h.parts; keeps = h.keeps; within = subst (λ (o : Option (Link S)). M h.parts o w.mode) e h.within }

  pod_by_holds : (w : World S T C) (h : H w) (l : Link S) (o : Option S) → is_closed w.mode ≡ false → w.fresh ≡ Some l → l.cut ≡ false → l.session ≡ o → H (new_pod_by k rules p w l o)
  pod_by_holds w h l None c e uncut so =
      cond_both (nat_lt 0 (length l.startup) && not (nat_lt l.delivered (length l.startup))) (record l { got = l.got ++ render (k.begins p).1; session = Some (k.begins p).0 }) l (λ m. H (record w { fresh = Some m }))
      (λ b. changes_hold w h l (record l { got = l.got ++ render (k.begins p).1; session = Some (k.begins p).0 }) e (open_bears h.parts.session (face l) uncut so))
      (λ b. same_fresh w h l e)
  pod_by_holds w h l (Some x) c e uncut so = hears_holds w h l x (link.next_to_pod l) c e uncut so refl

  pub new_pod_holds : (w : World S T C) (h : H w) (o : Option (Link S)) → is_closed w.mode ≡ false → w.fresh ≡ o → H (new_pod k rules p w o)
  new_pod_holds w h None c e = h
  new_pod_holds w h (Some l) c e = cond_both l.cut w (new_pod_by k rules p w l l.session) (λ v. H v) (λ b. h) (λ b. pod_by_holds w h l l.session c e b refl)
