-- What the current link's pod takes keeps what holds.
use Rattle.std.proofs.Common.{◌≡◌, ◌+◌, ◌-◌, ◌<◌, ◌≤◌, true, false, List, [], ◌∷◌, ◌++◌, length, Option, Some, None, refl, sym, ap, subst, ◌∙◌, arith, inl, inr}
use Rattle.std.specs.Prelude.{nat_lt, if◌then◌else◌}
use Rattle.std.specs.List.{AllByRecursion}
use Rattle.std.proofs.lemmas.Bool.{cond_both, ltb-true, ltb-false}
use Rattle.std.proofs.lemmas.List.{length-append}
use Rattle.pgw_frames.specs.declared.frame.Frame.{Frame}
use Rattle.pgw_frames.specs.Frames.{render, IsGood}
use Rattle.proxy_outside.specs.Rules.{Rules}
use Rattle.session_model.specs.Kind.{Kind, Answers}
use Rattle.session_model.specs.Laws.{Laws}
use Rattle.session_model.specs.Tags.{plain}
use Rattle.session_model.specs.Texts.{transfer_query}
use Rattle.pgw_messages.specs.declared.params.Pair.{Pair}
use Rattle.session_model.specs.declared.transfer.TransferKey.{TransferKey}
use Rattle.transfer_stages.proofs.Saying.{transfer_good}
use Rattle.transfer_stages.specs.declared.stage.Stage.{Stage}
use Rattle.transfer_stages.specs.declared.stage.Stage.TheVariants as at
use Rattle.session_model.specs.Solo.{store_after, answer_to, told}
use Rattle.forwarder_world.specs.Link as link
use Rattle.forwarder_world.specs.Link.{Link}
use Rattle.forwarder_world.specs.World.{World, Mode, Running, Stop, Exchanging, Closed, pod_takes, pod_takes_client, pod_takes_own, is_closed}
use Rattle.proxy_outside.specs.declared.identity.ClientKey.{ClientKey}
use Rattle.forwarder_world.proofs.Sums.{Calm, copy_first}
use Rattle.forwarder_world.proofs.Links.{Sends, Gets, sends_next, sends_take, gets_grow}
use Rattle.forwarder_world.proofs.Keeps.{Parts, View, view, Keeps, keeps_client, Life}
use Rattle.forwarder_world.proofs.Within.{Untaken, NewAt, OnNew, AtStage, InMode, Holds, old_reply}

-- the first of two lists has something
first_there : (xs ys : List Frame) (f : Frame) (more : List Frame) → xs ++ ys ≡ f ∷ more → 0 < length xs → (tail : List Frame) × (xs ≡ f ∷ tail)
first_there [] ys f more e lt = absurd (omega arith)
first_there (x ∷ xs) ys f more e lt = (xs, let q : x ≡ f = cc in rw q refl)

none_there : (xs : List Frame) → length xs ≤ 0 → xs ≡ []
none_there [] le = refl
none_there (x ∷ xs) le = absurd (omega arith)

module _ {S T C R : Type 0} (k : Kind S C R) (rules : Rules T C R) (kept : S → Type 0) (laws : Laws k rules kept) (key : ClientKey) (p : List Pair) where
  abbrev H : World S T C → Type 0
  H w = Holds k rules kept key p w

  abbrev M : Parts S → Option (Link S) → Mode → Type 0
  M q fresh mode = InMode k p q fresh mode

  -- the parts after a message of the client
  abbrev after_client : Parts S → T → Frame → List Frame → Parts S
  after_client q t f more = record q {
    done = q.done ++ f ∷ [];
    ahead = more;
    told = q.told ++ f ∷ [];
    owed = q.owed ++ (told k rules q.session t f).1;
    replied = q.replied ++ (told k rules q.session t f).1;
    session = (told k rules q.session t f).0;
  }

  -- only copy messages come to a calm session, and it stays calm
  calm_client : (q : Parts S) (t : T) (f : Frame) (more : List Frame) → q.ahead ≡ f ∷ more → Calm k q.session q.ahead q.owed
      → Calm k (told k rules q.session t f).0 more (q.owed ++ (told k rules q.session t f).1)
  calm_client q t f more e c =
      let copies = copy_first f more (subst (λ (g : List Frame). plain g ≡ []) e c.copies) in
      let i = laws.ignores q.session f (answer_to rules t (k.asks q.session f)) copies.0 c.quiet in
      record { quiet = i.1; copies = copies.1; nothing_owed = rw (c.nothing_owed, i.0) refl }

  client_stage : (q : Parts S) (fresh : Option (Link S)) (t : T) (f : Frame) (more : List Frame) (u : TransferKey) (x : Stage) → q.ahead ≡ f ∷ more → AtStage k p u q fresh x
      → (q.own_got ≡ []) × AtStage k p u (after_client q t f more) fresh x
  client_stage q fresh t f more u at.AskOld e m = (m.old.1, record { calm = calm_client q t f more e m.calm; old = m.old; new = m.new })
  client_stage q fresh t f more u at.OldColumns e m =
      elim m.old [
        | inl o ↦ (o.1, record { calm = calm_client q t f more e m.calm; old = inl o; new = m.new })
        | inr o ↦ absurd (let g = o.1 in cc)
      ]
  client_stage q fresh t f more u at.OldRow e m = absurd (let g = m.old.1 in cc)
  client_stage q fresh t f more u (at.OldTag s) e m = absurd (let g = m.old.0.1 in cc)
  client_stage q fresh t f more u (at.OldReady s) e m = absurd (let g = m.old.0.1 in cc)
  client_stage q fresh t f more u (at.Dial b token) e m = absurd (let g = m.old.0.1 in cc)
  client_stage q fresh t f more u (at.Packet b token) e m = absurd (let g = m.old.0.1 in cc)
  client_stage q fresh t f more u (at.NewAuth b) e m = absurd (let g = m.old.0.1 in cc)
  client_stage q fresh t f more u (at.NewStatus b n n_key) e m = absurd (let g = m.old.0.1 in cc)
  client_stage q fresh t f more u (at.Restore b n_key) e m = absurd (let g = m.old.0.1 in cc)
  client_stage q fresh t f more u (at.NewColumns n_key) e m = absurd (let g = m.old.0.1 in cc)
  client_stage q fresh t f more u (at.NewRow n_key) e m = absurd (let g = m.old.0.1 in cc)
  client_stage q fresh t f more u (at.NewTag n_key) e m = absurd (let g = m.old.0.1 in cc)
  client_stage q fresh t f more u (at.NewReady n_key) e m = absurd (let g = m.old.0.1 in cc)
  client_stage q fresh t f more u (at.Ended o) e m = absurd m.old

  client_mode : (q : Parts S) (fresh : Option (Link S)) (t : T) (f : Frame) (more : List Frame) (mode : Mode) → is_closed mode ≡ false → q.ahead ≡ f ∷ more → M q fresh mode
      → (q.own_got ≡ []) × M (after_client q t f more) fresh mode
  client_mode q fresh t f more Running o e m = (m.0.1, m)
  client_mode q fresh t f more (Stop a b) o e m = (m.0.1, m)
  client_mode q fresh t f more (Exchanging u x) o e m = client_stage q fresh t f more u x e m
  client_mode q fresh t f more (Closed c) o e m = absurd cc

  client_holds : (w : World S T C) (h : H w) (f : Frame) (more : List Frame) → is_closed w.mode ≡ false → w.link.cut ≡ false → h.parts.ahead ++ h.parts.own_sent ≡ f ∷ more → nat_lt w.taken (length w.forwarded) ≡ true
      → H (pod_takes_client k rules w h.parts.session f)
  client_holds w h f more o uncut e lt =
      let q : Parts S = h.parts in
      let l : w.taken < length w.forwarded = ltb-true w.taken (length w.forwarded) lt in
      let n : length w.forwarded ≡ length q.done + length q.ahead = ap length h.keeps.shares ∙ length-append q.done q.ahead in
      let d : length q.done ≡ w.taken = h.keeps.done_is in
      let some = first_there q.ahead q.own_sent f more e (omega arith) in
      let m = client_mode q w.fresh w.store f some.0 w.mode o some.1 h.within in
      record {
        parts = after_client q w.store f some.0;
        keeps = keeps_client k rules kept laws key p (view w) q f some.0 some.1 m.0 uncut h.keeps;
        within = m.1;
      }

  -- ---- the transfer Query

  -- only at one stage a text of the exchange is on its way
  own_stage : (q : Parts S) (fresh : Option (Link S)) (u : TransferKey) (x : Stage) (f : Frame) (more : List Frame) → q.own_sent ≡ f ∷ more → AtStage k p u q fresh x → (x ≡ at.OldColumns) × Untaken u q
  own_stage q fresh u at.AskOld f more e m = absurd (let g = m.old.0 in cc)
  own_stage q fresh u at.OldColumns f more e m =
      elim m.old [
        | inl o ↦ (refl, o)
        | inr o ↦ absurd (let g = o.0 in cc)
      ]
  own_stage q fresh u at.OldRow f more e m = absurd (let g = m.old.0 in cc)
  own_stage q fresh u (at.OldTag s) f more e m = absurd (let g = m.old.0.0 in cc)
  own_stage q fresh u (at.OldReady s) f more e m = absurd (let g = m.old.0.0 in cc)
  own_stage q fresh u (at.Dial b token) f more e m = absurd (let g = m.old.0.0 in cc)
  own_stage q fresh u (at.Packet b token) f more e m = absurd (let g = m.old.0.0 in cc)
  own_stage q fresh u (at.NewAuth b) f more e m = absurd (let g = m.old.0.0 in cc)
  own_stage q fresh u (at.NewStatus b n n_key) f more e m = absurd (let g = m.old.0.0 in cc)
  own_stage q fresh u (at.Restore b n_key) f more e m = absurd (let g = m.old.0.0 in cc)
  own_stage q fresh u (at.NewColumns n_key) f more e m = absurd (let g = m.old.0.0 in cc)
  own_stage q fresh u (at.NewRow n_key) f more e m = absurd (let g = m.old.0.0 in cc)
  own_stage q fresh u (at.NewTag n_key) f more e m = absurd (let g = m.old.0.0 in cc)
  own_stage q fresh u (at.NewReady n_key) f more e m = absurd (let g = m.old.0.0 in cc)
  own_stage q fresh u (at.Ended o) f more e m = absurd m.old

  -- a text that says nothing to the store, and leaves the session as it is
  keeps_own : (v : View S T C) (q : Parts S) (f : Frame) (more reply : List Frame) → q.own_sent ≡ f ∷ more → q.ahead ≡ [] → q.own_got ≡ [] → q.owed ≡ [] → v.cut ≡ false
      → IsGood f → k.asks q.session f ≡ None → k.tells q.session f None ≡ (q.session, reply) → Keeps k rules kept key p v q
      → Keeps k rules kept key p
      (record v {
        heard = v.heard + 1;
        got = v.got ++ render (told k rules q.session v.store f).1;
        session = Some (told k rules q.session v.store f).0;
        store = store_after rules v.store (k.asks q.session f);
      })
      (record q { told = q.told ++ f ∷ []; own_sent = more; own_got = reply })
  keeps_own v q f more reply own no_ahead no_got no_owed uncut good asks tells h =
      let both : told k rules q.session v.store f ≡ (q.session, reply) = ap (λ (o : Option C). k.tells q.session f (answer_to rules v.store o)) asks ∙ tells in
      let store : v.store ≡ store_after rules v.store (k.asks q.session f) = sym (ap (λ (o : Option C). store_after rules v.store o) asks) in
      let fits = laws.tell_fits q.session f None h.life.session_kept good (subst (λ (o : Option C). Answers rules o None) (sym asks) tt) in
      let replies : AllByRecursion IsGood reply = subst (λ (r : S × List Frame). AllByRecursion IsGood r.1) tells fits.1 in
      let sends : Sends v.sent v.heard q.told (f ∷ more) = subst (λ (t : List Frame). Sends v.sent v.heard q.told t) (rw (no_ahead, own) refl) h.sends in
      let gets : Gets v.got v.cut v.out q.gone [] = subst (λ (t : List Frame). Gets v.got v.cut v.out q.gone t) (rw (no_owed, no_got) refl) h.gets in
      record {
        fore = h.fore;
        written_is = h.written_is;
        shares = h.shares;
        done_is = h.done_is;
        sends = rw no_ahead (sends_take v.sent v.heard q.told more f sends);
        gets = subst (λ (r : S × List Frame). Gets (v.got ++ render r.1) v.cut v.out q.gone (q.owed ++ reply)) (sym both) (rw no_owed (gets_grow v.got v.cut v.out q.gone [] reply uncut replies gets));
        passed_is = h.passed_is;
        received_is = h.received_is;
        session_is = ap (λ (r : S × List Frame). Some r.0) both;
        life = subst (λ (t : T). Life k rules kept p v.forwarded v.story q.session t v.taken q.replied) store h.life;
        sums = h.sums;
      }

  own_mode : (w : World S T C) (h : H w) (f : Frame) (more : List Frame) (mode : Mode) → w.mode ≡ mode → is_closed mode ≡ false → w.link.cut ≡ false → h.parts.ahead ≡ [] → h.parts.own_sent ≡ f ∷ more → M h.parts w.fresh mode
      → H (pod_takes_own k rules w h.parts.session f)
  own_mode w h f more Running e o uncut a own m = absurd (let g = m.0.0 in cc)
  own_mode w h f more (Stop x y) e o uncut a own m = absurd (let g = m.0.0 in cc)
  own_mode w h f more (Closed c) e o uncut a own m = absurd cc
  own_mode w h f more (Exchanging u x) e o uncut a own m =
      let q : Parts S = h.parts in
      let s = own_stage q w.fresh u x f more own m in
      let un = s.1 in
      let is : f ≡ transfer_query u = let g = un.0 in cc in
      let last : more ≡ [] = let g = un.0 in cc in
      let t = laws.transfers q.session u m.calm.quiet in
      let reply : List Frame = old_reply k u q.session in
      let asks : k.asks q.session f ≡ None = rw is t.0 in
      let tells : k.tells q.session f None ≡ (q.session, reply) = rw is t.1 in
      let mode : w.mode ≡ Exchanging u at.OldColumns = e ∙ ap (Exchanging u) s.0 in
      let next : Parts S = record q { told = q.told ++ f ∷ []; own_sent = more; own_got = reply } in
      let n : OnNew w.fresh (NewAt k p q.session at.OldColumns) = subst (λ (y : Stage). OnNew w.fresh (NewAt k p q.session y)) s.0 m.new in
      let after : AtStage k p u next w.fresh at.OldColumns = record { calm = m.calm; old = inr (last, a, refl); new = n } in
      record {
        parts = next;
        keeps = keeps_own (view w) q f more reply own a un.1 m.calm.nothing_owed uncut (rw is (transfer_good u)) asks tells h.keeps;
        within = subst (λ (y : Mode). M next w.fresh y) (sym mode) after;
      }

  own_holds : (w : World S T C) (h : H w) (f : Frame) (more : List Frame) → is_closed w.mode ≡ false → w.link.cut ≡ false → h.parts.ahead ++ h.parts.own_sent ≡ f ∷ more → nat_lt w.taken (length w.forwarded) ≡ false
      → H (pod_takes_own k rules w h.parts.session f)
  own_holds w h f more o uncut e ge =
      let q : Parts S = h.parts in
      let l : length w.forwarded ≤ w.taken = ltb-false w.taken (length w.forwarded) ge in
      let n : length w.forwarded ≡ length q.done + length q.ahead = ap length h.keeps.shares ∙ length-append q.done q.ahead in
      let d : length q.done ≡ w.taken = h.keeps.done_is in
      let a : q.ahead ≡ [] = none_there q.ahead (omega arith) in
      let own : q.own_sent ≡ f ∷ more = subst (λ (t : List Frame). t ++ q.own_sent ≡ f ∷ more) a e in
      own_mode w h f more w.mode refl o uncut a own h.within

  pub pod_holds : (w : World S T C) (h : H w) (o : Option S) (m : Option Frame) → is_closed w.mode ≡ false → w.link.cut ≡ false → w.link.session ≡ o → link.next_to_pod w.link ≡ m → H (pod_takes k rules w o m)
  pod_holds w h None m open_ uncut so e = h
  pod_holds w h (Some s) None open_ uncut so e = h
  pod_holds w h (Some s) (Some f) open_ uncut so e =
      let q : Parts S = h.parts in
      let both : Some q.session ≡ Some s = sym h.keeps.session_is ∙ so in
      let same : q.session ≡ s = cc in
      let n = sends_next (w.link.delivered - length w.link.startup) w.link.sent w.link.taken q.told (q.ahead ++ q.own_sent) f h.keeps.sends e in
      subst (λ (x : S). H (if nat_lt w.taken (length w.forwarded) then pod_takes_client k rules w x f else pod_takes_own k rules w x f)) same
      (cond_both (nat_lt w.taken (length w.forwarded)) (pod_takes_client k rules w q.session f) (pod_takes_own k rules w q.session f) (λ v. H v)
      (λ lt. client_holds w h f n.0 open_ uncut n.1 lt)
      (λ ge. own_holds w h f n.0 open_ uncut n.1 ge))
