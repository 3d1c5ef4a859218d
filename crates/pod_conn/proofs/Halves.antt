-- The halves of a connection and its port, step after step.
use Rattle.std.proofs.Common.{◌≡◌, ℕ, ◌+◌, ◌≤◌, List, [], ◌∷◌, ◌++◌, take, drop, option_map, refl, ap, sym, subst, ◌∙◌, arith, append_assoc, append-nil}
use Rattle.proxy_outside.specs.Reading.{Origin, Takes, Stays, Rose}
use Rattle.proxy_links.specs.Told.{push}
use Rattle.link_io.proofs.Parts.{push_push, push_nil, left_left, left_nil}
use Rattle.pod_conn.specs.Ports.{Port}
use Rattle.pod_conn.specs.Serving.{Hears, Asked}

-- ---- reading

pub hears_none : (s : Origin) → Hears s s []
hears_none s = record { taken = sym (push_nil s.taken); left = left_nil s.left; link = refl; faults = omega arith }

pub hears_more : (a b c : Origin) (x y : List ℕ) → Hears a b x → Hears b c y → Hears a c (x ++ y)
hears_more a b c x y p q = record {
  taken = q.taken ∙ ap (λ v. push v y) p.taken ∙ push_push a.taken x y;
  left = p.left ∙ ap (option_map (λ zs. x ++ zs)) q.left ∙ left_left c.left x y;
  link = q.link ∙ p.link;
  faults = let f = p.faults in let g = q.faults in omega arith;
}

pub hears_stay : (s t : Origin) → Stays s t → s.faults ≤ t.faults → t.link ≡ s.link → Hears s t []
hears_stay s t h f l = record { taken = h.taken ∙ sym (push_nil s.taken); left = sym h.left ∙ left_nil t.left; link = l; faults = f }

pub hears_got : (s t : Origin) (x y : List ℕ) → Takes s t x → y ≡ x → s.faults ≤ t.faults → t.link ≡ s.link → Hears s t y
hears_got s t x y h e f l = subst (λ (v : List ℕ). Hears s t v) (sym e) (record { taken = h.taken; left = h.left; link = l; faults = f })

pub rose_from : (a b c : ℕ) → a ≤ b → Rose b c → Rose a c
rose_from a b c h r = omega (arith, h, r)

-- ---- asking

module _ {C R : Type 0} where
  pub asked_none : (p : Port C R) → Asked p p []
  asked_none p = record { desk = refl; asked = sym (append-nil p.asked); refusals = omega arith }

  pub asked_more : (a b c : Port C R) (x y : List (C × R)) → Asked a b x → Asked b c y → Asked a c (x ++ y)
  asked_more a b c x y p q = record {
    desk = q.desk ∙ p.desk;
    asked = q.asked ∙ ap (λ v. v ++ y) p.asked ∙ append_assoc a.asked x y;
    refusals = let f = p.refusals in let g = q.refusals in omega arith;
  }
