-- The steps of an exchange keep what holds.
use Rattle.std.proofs.Common.{◌≡◌, ℕ, ◌+◌, false, List, [], ◌∷◌, ◌++◌, length, Option, Some, None, refl, sym, ap, subst, ◌∙◌, append_assoc, inl, inr}
use Rattle.std.specs.Prelude.{is_some, slice_get, nat_lt, ◌==◌, ◌&&◌, if◌then◌else◌, codes}
use Rattle.std.specs.Str.{bytes_eq}
use Rattle.std.proofs.lemmas.Bool.{cond_both, and_parts, eqb-true}
use Rattle.std.proofs.lemmas.List.{append-nil}
use Rattle.pgw_frames.specs.declared.frame.Frame.{Frame}
use Rattle.pgw_frames.specs.Frames.{frames, IsGood}
use Rattle.pgw_frames.proofs.Fronts.{frames_nil}
use Rattle.proxy_outside.specs.Rules.{Rules}
use Rattle.session_model.specs.Kind.{Kind, EndsReady}
use Rattle.session_model.specs.Laws.{Laws}
use Rattle.session_model.specs.Texts.{transfer_query, transfer_row, transfer_tag, ready, restore_query, restore_reply, restore_columns, restore_row, restore_tag}
use Rattle.pgw_messages.specs.declared.params.Pair.{Pair}
use Rattle.session_model.specs.declared.transfer.TransferKey.{TransferKey}
use Rattle.transfer_stages.proofs.Saying.{transfer_good, restore_good, says_dump}
use Rattle.pgw_messages.specs.declared.backend.fields.Field.{Field}
use Rattle.transfer_stages.specs.Exchange as exchange
use Rattle.transfer_stages.specs.Rows.{fault_of, has_names, has_one_column, key_of, row_of}
use Rattle.pgw_messages.specs.declared.pod_key.PodKey.{PodKey}
use Rattle.transfer_stages.specs.declared.stage.Cut.{Cut}
use Rattle.transfer_stages.specs.declared.stage.Cut.TheVariants.{Unexpected, Ended, WriteFault}
use Rattle.transfer_stages.specs.declared.stage.Outcome.TheVariants as outcome
use Rattle.transfer_stages.specs.declared.stage.Said.{Said}
use Rattle.transfer_stages.specs.declared.stage.Said.TheVariants.{Given, Refuses}
use Rattle.transfer_stages.specs.declared.stage.Stage.{Stage}
use Rattle.transfer_stages.specs.declared.stage.Stage.TheVariants as at
use Rattle.transfer_stages.specs.declared.stage.Want.TheVariants as want
use Rattle.forwarder_world.specs.Link as link
use Rattle.forwarder_world.specs.Link.{Link}
use Rattle.forwarder_world.specs.World.{World, Mode, Running, Stop, Exchanging, Closed, closes, moved, fails, comes_to, arrives, awaits_old, awaits_new_by, awaits_new, sends_new, dials, moves_at, moves}
use Rattle.forwarder_world.specs.declared.event.Close.TheVariants.{ExchangeCut}
use Rattle.proxy_outside.specs.declared.identity.ClientKey.{ClientKey}
use Rattle.forwarder_world.proofs.Sums.{Calm}
use Rattle.forwarder_world.proofs.Lists.{good_get}
use Rattle.forwarder_world.proofs.Links.{Sends, Gets, sends_push, gets_next_all, gets_take}
use Rattle.forwarder_world.proofs.Keeps.{Parts, view, Keeps}
use Rattle.forwarder_world.proofs.Within.{face, NoOwn, Answered, HasBlob, Says, OldAt, NewAt, AtStage, InMode, Holds, Greeting, AtStartup, Waiting, RestoredSome}

-- a greeting ends with its ReadyForQuery
ends_there : (gone more : List Frame) (f : Frame) → EndsReady (gone ++ f ∷ more) → f.tag ≡ 90 → more ≡ []
ends_there [] [] f e t = refl
ends_there [] (g ∷ more) f e t = absurd (e.0 t)
ends_there (x ∷ []) more f e t = ends_there [] more f e.1 t
ends_there (x ∷ y ∷ gone) more f e t = ends_there (y ∷ gone) more f e.1 t

module _ {S T C R : Type 0} (k : Kind S C R) (rules : Rules T C R) (kept : S → Type 0) (laws : Laws k rules kept) (key : ClientKey) (p : List Pair) where
  abbrev H : World S T C → Type 0
  H w = Holds k rules kept key p w

  abbrev M : Parts S → Option (Link S) → Mode → Type 0
  M q fresh mode = InMode k p q fresh mode

  abbrev K : World S T C → Parts S → Type 0
  K w q = Keeps k rules kept key p (view w) q

  shut : (w : World S T C) (q : Parts S) → K w q → (c : Cut) → H (closes w (ExchangeCut c))
  shut w q h c = record { parts = q; keeps = h; within = refl }

  -- the session goes on at the old link
  failed : (w : World S T C) (q : Parts S) → K w q → Answered q [] → H (fails w)
  failed w q h a = record { parts = q; keeps = h; within = ((a.0, a.2), λ l e. absurd cc) }

  -- the same where no text was sent
  failed_plain : (w : World S T C) (q : Parts S) → K w q → NoOwn q → H (fails w)
  failed_plain w q h a = record { parts = q; keeps = h; within = (a, λ l e. absurd cc) }

  come : (w : World S T C) (t : TransferKey) (q : Parts S) (x : Stage) → K w q → AtStage k p t q w.fresh x → H (record w { mode = Exchanging t x })
  come w t q x h a = record { parts = q; keeps = h; within = a }

  -- ---- the old link

  send_old : (w : World S T C) (t : TransferKey) (q : Parts S) → K w q → AtStage k p t q w.fresh at.AskOld → H (record w { link = link.sends w.link (transfer_query t); mode = Exchanging t at.OldColumns })
  send_old w t q h a =
      let plain : Sends w.link.sent w.link.taken q.told q.ahead = subst (λ (g : List Frame). Sends w.link.sent w.link.taken q.told g) (rw a.old.0 (append-nil q.ahead)) h.sends in
      record {
        parts = record q { own_sent = transfer_query t ∷ [] };
        keeps = record {
          fore = h.fore;
          written_is = h.written_is;
          shares = h.shares;
          done_is = h.done_is;
          sends = sends_push w.link.sent w.link.taken q.told q.ahead (transfer_query t) (transfer_good t) plain;
          gets = h.gets;
          passed_is = h.passed_is;
          received_is = h.received_is;
          session_is = h.session_is;
          life = h.life;
          sums = h.sums;
        };
        within = record { calm = a.calm; old = inl (refl, a.old.1); new = a.new };
      }

  abbrev read_parts : Parts S → Frame → List Frame → Parts S
  read_parts q f more = record q { gone = q.gone ++ f ∷ []; own_got = more }

  -- one message of the reply is read
  read_old : (w : World S T C) (q : Parts S) (f : Frame) (more : List Frame) → q.owed ≡ [] → q.own_got ≡ f ∷ more → K w q → K (record w { link = link.takes w.link f }) (read_parts q f more)
  read_old w q f more none e h =
      let gets : Gets w.link.got w.link.cut w.link.out q.gone (f ∷ more) = subst (λ (g : List Frame). Gets w.link.got w.link.cut w.link.out q.gone g) (rw (none, e) refl) h.gets in
      record {
        fore = h.fore;
        written_is = h.written_is;
        shares = h.shares;
        done_is = h.done_is;
        sends = h.sends;
        gets = rw none (gets_take w.link.got w.link.cut w.link.out q.gone more f gets);
        passed_is = h.passed_is;
        received_is = h.received_is;
        session_is = h.session_is;
        life = h.life;
        sums = h.sums;
      }

  -- which message comes from the old link
  old_comes : (w : World S T C) (q : Parts S) (f : Frame) → q.owed ≡ [] → link.next_of_got w.link ≡ Some f → K w q → (more : List Frame) × (q.own_got ≡ f ∷ more)
  old_comes w q f none e h =
      let g : Gets w.link.got w.link.cut w.link.out q.gone q.own_got = subst (λ (x : List Frame). Gets w.link.got w.link.cut w.link.out q.gone (x ++ q.own_got)) none h.gets in
      gets_next_all w.link.got w.link.cut w.link.out q.gone q.own_got f g e

  -- what the row says is so
  says_so : (q : Parts S) (t : TransferKey) (f : Frame) (s : Said) → f ≡ transfer_row t (k.dumps q.session) (k.token q.session) → IsGood f → exchange.said t p (row_of f) ≡ Some s → Says k q.session s
  says_so q t f (Given b token) e good said =
      says_dump t p (k.dumps q.session) (k.token q.session) b token (λ c d. laws.blob_bytes q.session c d) (λ r d. laws.says_why q.session r d)
      (subst (λ (g : Frame). IsGood g) e good) (subst (λ (g : Frame). exchange.said t p (row_of g) ≡ Some (Given b token)) e said)
  says_so q t f (Refuses reason) e good said = tt

  row_comes : (w : World S T C) (t : TransferKey) (q : Parts S) (f : Frame) (more : List Frame) (o : Option Said) → K w q → AtStage k p t q w.fresh (at.OldTag (Refuses [])) → ((s : Said) → o ≡ Some s → Says k q.session s) → H (arrives w t (exchange.row_said f o))
  row_comes w t q f more None h a says = shut w q h _
  row_comes w t q f more (Some s) h a says = come w t q (at.OldTag s) h (record { calm = a.calm; old = (a.old.0, says s refl); new = a.new })

  good_next : (w : World S T C) (q : Parts S) (f : Frame) (more : List Frame) → q.owed ≡ [] → q.own_got ≡ f ∷ more → K w q → IsGood f
  good_next w q f more none e h =
      let gets : Gets w.link.got w.link.cut w.link.out q.gone (f ∷ more) = subst (λ (g : List Frame). Gets w.link.got w.link.cut w.link.out q.gone g) (rw (none, e) refl) h.gets in
      good_get (q.gone ++ f ∷ more) (length q.gone) f gets.got_good (there q.gone)
    where
      there : (xs : List Frame) → slice_get (xs ++ f ∷ more) (length xs) ≡ Some f
      there [] = refl
      there (x ∷ xs) = there xs

  -- the stage after a message from the old pod
  old_takes : (w : World S T C) (t : TransferKey) (q : Parts S) (x : Stage) (f : Frame) (more : List Frame) → q.own_got ≡ f ∷ more → K w q → AtStage k p t q w.fresh x → exchange.wants x ≡ want.AwaitOld
      → H (arrives (record w { link = link.takes w.link f }) t (exchange.takes t p x f))
  unfolding exchange.takes
  old_takes w t q at.OldColumns f more e h a aw =
      let v : World S T C = record w { link = link.takes w.link f } in
      let n = read_old w q f more a.calm.nothing_owed e h in
      elim a.old [
        | inl o ↦ absurd (let g = o.1 in cc)
        | inr o ↦
            let m : more ≡ transfer_row t (k.dumps q.session) (k.token q.session) ∷ transfer_tag ∷ ready (k.status q.session) ∷ [] = let g = o.2 in cc in
            cond_both (has_names exchange.transfer_names f) at.OldRow (exchange.old_unexpected f) (λ y. H (arrives v t y))
            (λ b. come v t (read_parts q f more) at.OldRow n (record { calm = a.calm; old = (o.0, o.1, m); new = a.new }))
            (λ b. shut v (read_parts q f more) n _)
      ]
  old_takes w t q at.OldRow f more e h a aw =
      let v : World S T C = record w { link = link.takes w.link f } in
      let n = read_old w q f more a.calm.nothing_owed e h in
      let is : f ≡ transfer_row t (k.dumps q.session) (k.token q.session) = let g = a.old.2 in cc in
      let m : more ≡ transfer_tag ∷ ready (k.status q.session) ∷ [] = let g = a.old.2 in cc in
      row_comes v t (read_parts q f more) f more (exchange.said t p (row_of f)) n (record { calm = a.calm; old = ((a.old.0, a.old.1, m), tt); new = a.new })
      (λ s o. says_so q t f s is (good_next w q f more a.calm.nothing_owed e h) o)
  old_takes w t q (at.OldTag s) f more e h a aw =
      let v : World S T C = record w { link = link.takes w.link f } in
      let n = read_old w q f more a.calm.nothing_owed e h in
      let m : more ≡ ready (k.status q.session) ∷ [] = let g = a.old.0.2 in cc in
      cond_both (exchange.is_tag (codes "SHOW TRANSFER STATE 1") f) (at.OldReady s) (exchange.old_unexpected f) (λ y. H (arrives v t y))
      (λ b. come v t (read_parts q f more) (at.OldReady s) n (record { calm = a.calm; old = ((a.old.0.0, a.old.0.1, m), a.old.1); new = a.new }))
      (λ b. shut v (read_parts q f more) n _)
  old_takes w t q (at.OldReady (Given b token)) f more e h a aw =
      let v : World S T C = record w { link = link.takes w.link f } in
      let n = read_old w q f more a.calm.nothing_owed e h in
      let m : more ≡ [] = let g = a.old.0.2 in cc in
      cond_both (exchange.is_ready_idle f) (at.Dial b token) (exchange.old_unexpected f) (λ y. H (arrives v t y))
      (λ c. come v t (read_parts q f more) (at.Dial b token) n (record { calm = a.calm; old = ((a.old.0.0, a.old.0.1, m), a.old.1); new = a.new }))
      (λ c. shut v (read_parts q f more) n _)
  old_takes w t q (at.OldReady (Refuses reason)) f more e h a aw =
      let v : World S T C = record w { link = link.takes w.link f } in
      let n = read_old w q f more a.calm.nothing_owed e h in
      let m : more ≡ [] = let g = a.old.0.2 in cc in
      cond_both (exchange.is_ready f) (at.Ended (outcome.Refused reason)) (exchange.old_unexpected f) (λ y. H (arrives v t y))
      (λ c. failed v (read_parts q f more) n (a.old.0.0, a.old.0.1, m))
      (λ c. shut v (read_parts q f more) n _)
  old_takes w t q at.AskOld f more e h a aw = absurd cc
  old_takes w t q (at.Dial b token) f more e h a aw = absurd cc
  old_takes w t q (at.Packet b token) f more e h a aw = absurd cc
  old_takes w t q (at.NewAuth b) f more e h a aw = absurd cc
  old_takes w t q (at.NewStatus b n n_key) f more e h a aw = absurd cc
  old_takes w t q (at.Restore b n_key) f more e h a aw = absurd cc
  old_takes w t q (at.NewColumns n_key) f more e h a aw = absurd cc
  old_takes w t q (at.NewRow n_key) f more e h a aw = absurd cc
  old_takes w t q (at.NewTag n_key) f more e h a aw = absurd cc
  old_takes w t q (at.NewReady n_key) f more e h a aw = absurd cc
  old_takes w t q (at.Ended o) f more e h a aw = absurd cc

  await_old : (w : World S T C) (t : TransferKey) (x : Stage) (o : Option Frame) → exchange.wants x ≡ want.AwaitOld → link.next_of_got w.link ≡ o → w.mode ≡ Exchanging t x → (h : H w) → AtStage k p t h.parts w.fresh x → H (awaits_old w t p x o)
  await_old w t x None aw e mode h a = cond_both w.link.cut (comes_to w (outcome.OldCut Ended)) w (λ v. H v) (λ c. shut w h.parts h.keeps _) (λ c. h)
  await_old w t x (Some f) aw e mode h a =
      let n = old_comes w h.parts f a.calm.nothing_owed e h.keeps in
      old_takes w t h.parts x f n.0 n.1 h.keeps a aw

  -- ---- the new link

  dial_holds : (w : World S T C) (t : TransferKey) (b token : List ℕ) → (h : H w) → AtStage k p t h.parts w.fresh (at.Dial b token) → H (dials w t (at.Packet b token))
  dial_holds w t b token h a =
      cond_both w.no_dial (comes_to (record w { no_dial = false }) outcome.DialFault) (record w { fresh = Some link.dialed; mode = Exchanging t (at.Packet b token) }) (λ v. H v)
      (λ c. failed (record w { no_dial = false }) h.parts h.keeps a.old.0)
      (λ c. record {
        parts = h.parts;
        keeps = h.keeps;
        within = record {
          calm = a.calm;
          old = a.old;
          new = λ l e. let eq : link.dialed ≡ l = cc in subst (λ (y : Link S). NewAt k p h.parts.session (at.Packet b token) (face y)) eq (inl (record { sent_is = refl; heard_is = refl; got_is = refl; out_is = refl; session_is = refl }));
        };
      })

  -- a change of the new link that brings the next stage
  new_stage : (w : World S T C) (t : TransferKey) (q : Parts S) (x y : Stage) (m : Link S) → K w q → AtStage k p t q w.fresh x → OldAt k t q y → NewAt k p q.session y (face m) → H (record w { fresh = Some m; mode = Exchanging t y })
  new_stage w t q x y m h a old new = record {
    parts = q;
    keeps = h;
    within = record { calm = a.calm; old = old; new = λ n e. let eq : m ≡ n = cc in subst (λ (z : Link S). NewAt k p q.session y (face z)) eq new };
  }

  send_packet : (w : World S T C) (t : TransferKey) (b token : List ℕ) (o : Option (Link S)) → w.fresh ≡ o → (h : H w) → AtStage k p t h.parts w.fresh (at.Packet b token)
      → H (sends_new w t (λ l. link.opens l (exchange.packet p token)) (at.NewAuth b) o)
  send_packet w t b token None e h a = h
  send_packet w t b token (Some l) e h a =
      cond_both l.cut (comes_to w (outcome.NewCut WriteFault)) (record w { fresh = Some (link.opens l (exchange.packet p token)); mode = Exchanging t (at.NewAuth b) }) (λ v. H v)
      (λ c. failed w h.parts h.keeps a.old.0)
      (λ c. new_stage w t h.parts (at.Packet b token) (at.NewAuth b) (link.opens l (exchange.packet p token)) h.keeps a a.old (a.new l e))

  send_restore : (w : World S T C) (t : TransferKey) (b : List ℕ) (n_key : Option PodKey) (o : Option (Link S)) → w.fresh ≡ o → (h : H w) → AtStage k p t h.parts w.fresh (at.Restore b n_key)
      → H (sends_new w t (λ l. link.sends l (restore_query b)) (at.NewColumns n_key) o)
  send_restore w t b n_key None e h a = h
  send_restore w t b n_key (Some l) e h a =
      let g = a.new l e in
      let blob = a.old.1 in
      let empty : Sends l.sent l.taken [] [] = rw (g.1.sent_is, g.1.heard_is) (record { sent_is = refl; taken_is = refl; sent_good = tt }) in
      let wait : Waiting k p (face (link.sends l (restore_query b))) b g.0 = record { sends = sends_push l.sent l.taken [] [] (restore_query b) (restore_good b blob.1) empty; gets = g.1.gets; session_is = g.1.session_is } in
      cond_both l.cut (comes_to w (outcome.NewCut WriteFault)) (record w { fresh = Some (link.sends l (restore_query b)); mode = Exchanging t (at.NewColumns n_key) }) (λ v. H v)
      (λ c. failed w h.parts h.keeps a.old.0)
      (λ c. new_stage w t h.parts (at.Restore b n_key) (at.NewColumns n_key) (link.sends l (restore_query b)) h.keeps a (a.old.0, tt) (inl (b, g.0, blob, wait)))

  -- what is not expected of the new link ends the exchange, and the session goes on at the old one
  new_fails : (w : World S T C) (t : TransferKey) (q : Parts S) (f : Frame) → K w q → Answered q [] → H (arrives w t (exchange.new_unexpected f))
  new_fails w t q f h a = by (fault_of f)
    where
      by : (fault : Option (List Field)) → H (comes_to w (exchange.refusal f fault))
      by None = failed w q h a
      by (Some fields) = failed w q h a

  -- the session goes on at the new link
  moved_holds : (w : World S T C) (q : Parts S) (l : Link S) (o : Option (Link S)) → o ≡ Some l → K w q → Calm k q.session q.ahead q.owed → Answered q [] → RestoredSome (face l) q.session [] → H (moved w o)
  moved_holds w q l None e h c a r = absurd cc
  moved_holds w q l (Some m) e h c a r =
      let same : l ≡ m = cc in
      let at_m : RestoredSome (face m) q.session [] = subst (λ (y : Link S). RestoredSome (face y) q.session []) same r in
      record {
        parts = record q { ahead = []; told = restore_query at_m.0 ∷ []; own_sent = []; gone = at_m.1; owed = []; own_got = [] };
        keeps = record {
          fore = h.fore;
          written_is = h.written_is;
          shares = h.shares ∙ ap (λ (g : List Frame). q.done ++ g) a.1;
          done_is = h.done_is;
          sends = at_m.2.sends;
          gets = at_m.2.gets;
          passed_is = subst (λ (g : List Frame). w.passed ++ g ≡ (k.begins p).1 ++ q.replied) c.nothing_owed h.passed_is;
          received_is = h.received_is;
          session_is = at_m.2.session_is;
          life = h.life;
          sums = h.sums;
        };
        within = ((refl, refl), λ n d. absurd cc);
      }

  read_restored : (l : Link S) (s : S) (f : Frame) (left : List Frame) (g : List Frame) → RestoredSome (face l) s left → left ≡ f ∷ g → RestoredSome (face (link.takes l f)) s g
  read_restored l s f left g r e = (
    r.0,
    r.1 ++ f ∷ [],
    record {
      sends = r.2.sends;
      gets = gets_take l.got l.cut l.out r.1 g f (subst (λ (x : List Frame). Gets l.got l.cut l.out r.1 x) e r.2.gets);
      session_is = r.2.session_is;
    },
  )

  left_of : (l : Link S) (s : S) (left : List Frame) (f : Frame) → RestoredSome (face l) s left → link.next_of_got l ≡ Some f → (more : List Frame) × (left ≡ f ∷ more)
  left_of l s left f r e = gets_next_all l.got l.cut l.out r.1 left f r.2.gets e

  read_startup : (l : Link S) (f : Frame) → AtStartup k p (face l) → link.next_of_got l ≡ Some f → (gone : List Frame) × (more : List Frame) × Greeting k p (face (link.takes l f)) gone more × (((k.begins p).1 ≡ gone ++ more) × (f.tag ≡ 90 → more ≡ []))
  read_startup l f (inl u) e =
      let got : slice_get (frames []) l.out ≡ Some f = subst (λ (b : List ℕ). slice_get (frames b) l.out ≡ Some f) u.got_is e in
      let none : slice_get [] l.out ≡ Some f = subst (λ (g : List Frame). slice_get g l.out ≡ Some f) frames_nil got in
      absurd cc
  read_startup l f (inr g) e =
      let n = gets_next_all l.got l.cut l.out g.0 g.1 f g.2.gets e in
      let whole : g.0 ++ f ∷ n.0 ≡ (k.begins p).1 = subst (λ (x : List Frame). g.0 ++ x ≡ (k.begins p).1) n.1 g.2.whole in
      let all : (g.0 ++ f ∷ []) ++ n.0 ≡ (k.begins p).1 = append_assoc g.0 (f ∷ []) n.0 ∙ whole in (
        g.0 ++ f ∷ [],
        n.0,
        record {
          sent_is = g.2.sent_is;
          heard_is = g.2.heard_is;
          whole = all;
          gets = gets_take l.got l.cut l.out g.0 n.0 f (subst (λ (x : List Frame). Gets l.got l.cut l.out g.0 x) n.1 g.2.gets);
          session_is = g.2.session_is;
        },
        (sym all, λ t. ends_there g.0 n.0 f (subst (λ (x : List Frame). EndsReady x) (sym whole) (laws.greets p).0) t),
      )

  abbrev with_fresh : World S T C → Link S → World S T C
  with_fresh w l = record w { fresh = Some l }

  new_comes : (w : World S T C) (t : TransferKey) (q : Parts S) (x y : Stage) (m : Link S) → K w q → AtStage k p t q w.fresh x → OldAt k t q y → NewAt k p q.session y (face m) → H (record (with_fresh w m) { mode = Exchanging t y })
  new_comes w t q x y m h a old new = new_stage w t q x y m h a old new

  greet_takes : (w : World S T C) (t : TransferKey) (q : Parts S) (x : Stage) (l : Link S) (f : Frame) (b : List ℕ) (n : ℕ) (n_key : Option PodKey) → K w q → AtStage k p t q w.fresh x → Answered q [] × HasBlob k q.session b → AtStartup k p (face l) → link.next_of_got l ≡ Some f
      → H (arrives (with_fresh w (link.takes l f)) t (exchange.greets b n n_key f))
  greet_takes w t q x l f b n n_key h a old o e =
      let v : World S T C = with_fresh w (link.takes l f) in
      let r = read_startup l f o e in
      let later : AtStartup k p (face (link.takes l f)) = inr (r.0, r.1, r.2) in
      cond_both ((f.tag == 83) && nat_lt n 1000) (at.NewStatus b (n + 1) n_key) (if f.tag == 75 then exchange.keeps_key b n f n_key else if exchange.is_ready_idle f then at.Restore b n_key else exchange.new_unexpected f) (λ y. H (arrives v t y))
      (λ c. new_comes w t q x (at.NewStatus b (n + 1) n_key) (link.takes l f) h a old later)
      (λ c. cond_both (f.tag == 75) (exchange.keeps_key b n f n_key) (if exchange.is_ready_idle f then at.Restore b n_key else exchange.new_unexpected f) (λ y. H (arrives v t y))
      (λ d. by_key n_key later)
      (λ d. cond_both (exchange.is_ready_idle f) (at.Restore b n_key) (exchange.new_unexpected f) (λ y. H (arrives v t y))
      (λ i.
      let tag : f.tag ≡ 90 = eqb-true f.tag 90 (and_parts (f.tag == 90) (bytes_eq f.body (73 ∷ [])) i).0 in
      new_comes w t q x (at.Restore b n_key) (link.takes l f) h a old (r.0, subst (λ (g : List Frame). Greeting k p (face (link.takes l f)) r.0 g) (r.3.1 tag) r.2))
      (λ i. new_fails v t q f h old.0)))
    where
      by_key : (o : Option PodKey) → AtStartup k p (face (link.takes l f)) → H (arrives (with_fresh w (link.takes l f)) t (exchange.keeps_key b n f o))
      by_key (Some u) later = new_fails (with_fresh w (link.takes l f)) t q f h old.0
      by_key None later =
          cond_both (is_some (key_of f)) (at.NewStatus b n (key_of f)) (exchange.new_unexpected f) (λ y. H (arrives (with_fresh w (link.takes l f)) t y))
          (λ c. new_comes w t q x (at.NewStatus b n (key_of f)) (link.takes l f) h a old later)
          (λ c. new_fails (with_fresh w (link.takes l f)) t q f h old.0)

  -- the stage after a message from the new pod
  new_takes : (w : World S T C) (t : TransferKey) (q : Parts S) (x : Stage) (l : Link S) (f : Frame) → K w q → AtStage k p t q w.fresh x → NewAt k p q.session x (face l) → link.next_of_got l ≡ Some f → exchange.wants x ≡ want.AwaitNew
      → H (arrives (with_fresh w (link.takes l f)) t (exchange.takes t p x f))
  unfolding exchange.takes
  new_takes w t q (at.NewAuth b) l f h a n e aw =
      let r = read_startup l f n e in
      cond_both (exchange.is_auth_ok f) (at.NewStatus b 0 None) (exchange.new_unexpected f) (λ y. H (arrives (with_fresh w (link.takes l f)) t y))
      (λ c. new_comes w t q (at.NewAuth b) (at.NewStatus b 0 None) (link.takes l f) h a a.old (inr (r.0, r.1, r.2)))
      (λ c. new_fails (with_fresh w (link.takes l f)) t q f h a.old.0)
  new_takes w t q (at.NewStatus b m n_key) l f h a n e aw = greet_takes w t q (at.NewStatus b m n_key) l f b m n_key h a a.old n e
  new_takes w t q (at.NewColumns n_key) l f h a n e aw =
      elim n [
        | inl g ↦ absurd (let y = gets_next_all l.got l.cut l.out g.1 [] f g.3.gets e in let z = y.1 in cc)
        | inr r ↦
            let y = left_of l q.session restore_reply f r e in
            let z = y.1 in
            let is : restore_columns ≡ f = cc in
            cond_both (has_one_column f) (at.NewRow n_key) (exchange.new_unexpected f) (λ y. H (arrives (with_fresh w (link.takes l f)) t y))
            (λ c. new_comes w t q (at.NewColumns n_key) (at.NewRow n_key) (link.takes l f) h a a.old (read_restored l q.session f restore_reply (restore_row ∷ restore_tag ∷ ready 73 ∷ []) r (ap (λ (g : Frame). g ∷ restore_row ∷ restore_tag ∷ ready 73 ∷ []) is)))
            (λ c. new_fails (with_fresh w (link.takes l f)) t q f h a.old.0)
      ]
  new_takes w t q (at.NewRow n_key) l f h a n e aw =
      let y = left_of l q.session _ f n e in
      let z = y.1 in
      let is : restore_row ≡ f = cc in
      cond_both (exchange.has_t (row_of f)) (at.NewTag n_key) (exchange.new_unexpected f) (λ y. H (arrives (with_fresh w (link.takes l f)) t y))
      (λ c. new_comes w t q (at.NewRow n_key) (at.NewTag n_key) (link.takes l f) h a a.old (read_restored l q.session f (restore_row ∷ restore_tag ∷ ready 73 ∷ []) (restore_tag ∷ ready 73 ∷ []) n (ap (λ (g : Frame). g ∷ restore_tag ∷ ready 73 ∷ []) is)))
      (λ c. new_fails (with_fresh w (link.takes l f)) t q f h a.old.0)
  new_takes w t q (at.NewTag n_key) l f h a n e aw =
      let y = left_of l q.session _ f n e in
      let z = y.1 in
      let is : restore_tag ≡ f = cc in
      cond_both (exchange.is_tag (codes "SELECT 1") f) (at.NewReady n_key) (exchange.new_unexpected f) (λ y. H (arrives (with_fresh w (link.takes l f)) t y))
      (λ c. new_comes w t q (at.NewTag n_key) (at.NewReady n_key) (link.takes l f) h a a.old (read_restored l q.session f (restore_tag ∷ ready 73 ∷ []) (ready 73 ∷ []) n (ap (λ (g : Frame). g ∷ ready 73 ∷ []) is)))
      (λ c. new_fails (with_fresh w (link.takes l f)) t q f h a.old.0)
  new_takes w t q (at.NewReady n_key) l f h a n e aw =
      let y = left_of l q.session _ f n e in
      let z = y.1 in
      let is : ready 73 ≡ f = cc in
      cond_both (exchange.is_ready_idle f) (at.Ended (outcome.Moved n_key)) (exchange.new_unexpected f) (λ y. H (arrives (with_fresh w (link.takes l f)) t y))
      (λ c. moved_holds (with_fresh w (link.takes l f)) q (link.takes l f) (Some (link.takes l f)) refl h a.calm a.old.0 (read_restored l q.session f (ready 73 ∷ []) [] n (ap (λ (g : Frame). g ∷ []) is)))
      (λ c. new_fails (with_fresh w (link.takes l f)) t q f h a.old.0)
  new_takes w t q at.AskOld l f h a n e aw = absurd cc
  new_takes w t q at.OldColumns l f h a n e aw = absurd cc
  new_takes w t q at.OldRow l f h a n e aw = absurd cc
  new_takes w t q (at.OldTag s) l f h a n e aw = absurd cc
  new_takes w t q (at.OldReady s) l f h a n e aw = absurd cc
  new_takes w t q (at.Dial b token) l f h a n e aw = absurd cc
  new_takes w t q (at.Packet b token) l f h a n e aw = absurd cc
  new_takes w t q (at.Restore b n_key) l f h a n e aw = absurd cc
  new_takes w t q (at.Ended o) l f h a n e aw = absurd cc

  await_by : (w : World S T C) (t : TransferKey) (x : Stage) (l : Link S) (o : Option Frame) → exchange.wants x ≡ want.AwaitNew → w.fresh ≡ Some l → link.next_of_got l ≡ o → (h : H w) → AtStage k p t h.parts w.fresh x → Answered h.parts [] → H (awaits_new_by w t p x l o)
  await_by w t x l None aw e n h a old = cond_both l.cut (comes_to w (outcome.NewCut Ended)) w (λ v. H v) (λ c. failed w h.parts h.keeps old) (λ c. h)
  await_by w t x l (Some f) aw e n h a old = new_takes w t h.parts x l f h.keeps a (a.new l e) n aw

  await_new : (w : World S T C) (t : TransferKey) (x : Stage) (o : Option (Link S)) → exchange.wants x ≡ want.AwaitNew → w.fresh ≡ o → (h : H w) → AtStage k p t h.parts w.fresh x → Answered h.parts [] → H (awaits_new w t p x o)
  await_new w t x None aw e h a old = h
  await_new w t x (Some l) aw e h a old = await_by w t x l (link.next_of_got l) aw e refl h a old

  move_stage : (w : World S T C) (t : TransferKey) (x : Stage) → w.mode ≡ Exchanging t x → (h : H w) → AtStage k p t h.parts w.fresh x → H (moves_at w t p x)
  move_stage w t at.AskOld e h a =
      cond_both w.link.cut (comes_to w (outcome.OldCut WriteFault)) (record w { link = link.sends w.link (transfer_query t); mode = Exchanging t at.OldColumns }) (λ v. H v)
      (λ c. shut w h.parts h.keeps _)
      (λ c. send_old w t h.parts h.keeps a)
  move_stage w t at.OldColumns e h a = await_old w t at.OldColumns (link.next_of_got w.link) refl refl e h a
  move_stage w t at.OldRow e h a = await_old w t at.OldRow (link.next_of_got w.link) refl refl e h a
  move_stage w t (at.OldTag s) e h a = await_old w t (at.OldTag s) (link.next_of_got w.link) refl refl e h a
  move_stage w t (at.OldReady s) e h a = await_old w t (at.OldReady s) (link.next_of_got w.link) refl refl e h a
  move_stage w t (at.Dial b token) e h a = dial_holds w t b token h a
  move_stage w t (at.Packet b token) e h a = send_packet w t b token w.fresh refl h a
  move_stage w t (at.NewAuth b) e h a = await_new w t (at.NewAuth b) w.fresh refl refl h a a.old.0
  move_stage w t (at.NewStatus b n n_key) e h a = await_new w t (at.NewStatus b n n_key) w.fresh refl refl h a a.old.0
  move_stage w t (at.Restore b n_key) e h a = send_restore w t b n_key w.fresh refl h a
  move_stage w t (at.NewColumns n_key) e h a = await_new w t (at.NewColumns n_key) w.fresh refl refl h a a.old.0
  move_stage w t (at.NewRow n_key) e h a = await_new w t (at.NewRow n_key) w.fresh refl refl h a a.old.0
  move_stage w t (at.NewTag n_key) e h a = await_new w t (at.NewTag n_key) w.fresh refl refl h a a.old.0
  move_stage w t (at.NewReady n_key) e h a = await_new w t (at.NewReady n_key) w.fresh refl refl h a a.old.0
  move_stage w t (at.Ended o) e h a = h

  pub move_holds : (w : World S T C) (mode : Mode) → w.mode ≡ mode → H w → H (moves w p mode)
  move_holds w Running e h = h
  move_holds w (Stop a b) e h = h
  move_holds w (Exchanging t x) e h = move_stage w t x e h (subst (λ (m : Mode). M h.parts w.fresh m) e h.within)
  move_holds w (Closed c) e h = h
