-- What follows from asks one after another.
use Rattle.std.proofs.Common.{◌≡◌, List, [], ◌∷◌, ◌++◌, Option, Some, None, inl, inr, refl, sym, ap, ◌∙◌, append_assoc, append-nil}
use Rattle.proxy_outside.specs.declared.identity.SessionNo.{SessionNo}
use Rattle.proxy_outside.specs.declared.identity.TenantId.{TenantId}
use Rattle.proxy_links.specs.Told.{Grows, push}
use Rattle.proxy_hub.specs.Ports.{Port}
use Rattle.proxy_hub.specs.declared.command.HubCommand.{HubCommand}
use Rattle.proxy_hub.specs.declared.reply.HubReply.{HubReply}
use Rattle.pod_drain.specs.Watching.{Asked, commands, watch_with, watch_after, rings_with, rings_of}
use Rattle.pod_drain.specs.Rounds.{Scene, scene, Follows}

push_push : {A : Type 0} (o : Option (List A)) (xs ys : List A) → push (push o xs) ys ≡ push o (xs ++ ys)
push_push None xs ys = refl
push_push (Some bs) xs ys = ap Some (append_assoc bs xs ys)

push_nil : {A : Type 0} (o : Option (List A)) → o ≡ push o []
push_nil None = refl
push_nil (Some bs) = ap Some (sym (append-nil bs))

pub grows_none : {A : Type 0} (o : Option (List A)) → Grows o o []
grows_none o = inr (push_nil o)

pub grows_more : {A : Type 0} (o m n : Option (List A)) (xs ys : List A) → Grows o m xs → Grows m n ys → Grows o n (xs ++ ys)
grows_more o m n xs ys p (inl none) = inl none
grows_more o m n xs ys (inl none) (inr e) = inl (e ∙ ap (λ v. push v ys) none)
grows_more o m n xs ys (inr d) (inr e) = inr (e ∙ ap (λ v. push v ys) d ∙ push_push o xs ys)

watch_more : (w : List TenantId) (a b : List Asked) → watch_after w (a ++ b) ≡ watch_after (watch_after w a) b
unfolding watch_after
watch_more w [] b = refl
watch_more w (x ∷ a) b = watch_more (watch_with w x.0 x.1) a b

pub rings_more : (a b : List Asked) → rings_of (a ++ b) ≡ rings_of a ++ rings_of b
unfolding rings_of
rings_more [] b = refl
rings_more (x ∷ a) b = ap (λ (rs : List SessionNo). rings_with x.0 x.1 ++ rs) (rings_more a b) ∙ sym (append_assoc (rings_with x.0 x.1) (rings_of a) (rings_of b))

pub commands_more : (a b : List Asked) → commands (a ++ b) ≡ commands a ++ commands b
commands_more [] b = refl
commands_more (x ∷ a) b = ap (λ (cs : List HubCommand). x.0 ∷ cs) (commands_more a b)

-- ---- stretches

pub follow_none : (s : Scene) → Follows [] s s
unfolding watch_after rings_of
follow_none s = record { desk = refl; asks = sym (append-nil s.port.asked); watch = refl; rings = grows_none s.rings }

-- nothing was asked, and the port may have refused
pub follow_refused : (w : List TenantId) (p q : Port) (rs : Option (List SessionNo)) → q.desk ≡ p.desk → q.asked ≡ p.asked → Follows [] (scene w p rs) (scene w q rs)
unfolding watch_after rings_of
follow_refused w p q rs d a = record { desk = d; asks = a ∙ sym (append-nil p.asked); watch = refl; rings = grows_none rs }

pub follow_one : (w v : List TenantId) (p q : Port) (rs ts : Option (List SessionNo)) (c : HubCommand) (r : HubReply) → q.desk ≡ p.desk → q.asked ≡ p.asked ++ (c, r) ∷ [] → v ≡ watch_with w c r → Grows rs ts (rings_with c r)
    → Follows ((c, r) ∷ []) (scene w p rs) (scene v q ts)
unfolding watch_after rings_of
follow_one w v p q rs ts c r d a e g = record { desk = d; asks = a; watch = e; rings = rw (append-nil (rings_with c r)) g }

pub follow_more : (one two three : Scene) (a b : List Asked) → Follows a one two → Follows b two three → Follows (a ++ b) one three
follow_more one two three a b p q = record {
  desk = q.desk ∙ p.desk;
  asks = q.asks ∙ ap (λ (xs : List Asked). xs ++ b) p.asks ∙ append_assoc one.port.asked a b;
  watch = q.watch ∙ ap (λ (w : List TenantId). watch_after w b) p.watch ∙ sym (watch_more one.watch a b);
  rings = rw (rings_more a b) (grows_more one.rings two.rings three.rings (rings_of a) (rings_of b) p.rings q.rings);
}
