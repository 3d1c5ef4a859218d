-- Reading one message.
use Rattle.std.proofs.Common.{◌≡◌, ◌⊎◌, inl, inr, ℕ, ◌≤◌, List, [], ◌∷◌, ◌++◌, Result, Ok, Err, refl, ap, sym, subst, ◌∙◌, arith, append_assoc, append-nil}
use Rattle.proxy_outside.specs.Reading.{Origin, Rose, Reads}
use Rattle.proxy_outside.specs.declared.source.Took.TheVariants.{End}
use Rattle.link_io.specs.Reading.{IsAtEnd}
use Rattle.pgw_frames.specs.declared.frame.Frame.{Frame}
use Rattle.pgw_frames.specs.Frames.{Front, Whole, Partial, Malformed, front, IsGood}
use Rattle.pgw_frames.specs.Cutting.{Answers, HasGoodFrame}
use Rattle.pgw_frames.specs.declared.cutter.Next.{Next}
use Rattle.pgw_frames.specs.declared.cutter.Next.TheVariants as next
use Rattle.pgw_frames.proofs.Fronts.{whole-append}
use Rattle.pod_conn.specs.declared.end.PodEnd.{PodEnd}
use Rattle.pod_conn.specs.declared.end.PodEnd.TheVariants.{Closed, ClientCut, BadFrame, BadStartup, AuthRefused, ReadFault, WriteFault, JournalFull, NoMemory}
use Rattle.pod_conn.specs.Courses.{Standing, Between, Inside, resting}
use Rattle.pod_conn.specs.Serving.{Hears}
use Rattle.pod_conn.specs.Coming.{Feeds, end_resting, TakesOff, FindsNone, WhyNone}
use Rattle.pod_conn.proofs.Halves.{hears_none, hears_more, hears_stay, rose_from}

-- the client ended
pub ended_fed : (h g : List ℕ) (a b c : Origin) (r : PodEnd) (buf now : List ℕ) → g ≡ h → Hears a b [] → Reads End b c buf now → r ≡ end_resting g → Feeds (Err r) h g a c
ended_fed h g a b c r buf now e p x is =
    let q : Hears b c [] = hears_stay b c x.by_case.0 x.faults x.link in
    subst (λ (v : PodEnd). Feeds (Err v) h g a c) (sym (is ∙ ap end_resting e)) (by h (hears_more a b c [] [] p q, refl, (x.by_case.1, x.by_case.2)))
  where
    by : (h : List ℕ) → (Hears a c [] × (resting h ≡ resting h) × IsAtEnd c) → Feeds (Err (end_resting h)) h g a c
    by [] y = y
    by (z ∷ zs) y = y

-- what was taken is held behind the rest
pub record Holds (h : List ℕ) (a : Origin) (i : List ℕ) (b : Origin) : Type 0 where
  pub taken : List ℕ
  pub hears : Hears a b taken
  pub held : i ≡ h ++ taken

pub holds_none : (h : List ℕ) (a : Origin) → Holds h a h a
holds_none h a = record { taken = []; hears = hears_none a; held = sym (append-nil h) }

pub holds_more : (h i j : List ℕ) (a b c : Origin) → Holds h a i b → Feeds (Ok tt) i j b c → Holds h a j c
holds_more h i j a b c p f = record {
  taken = p.taken ++ f.0;
  hears = hears_more a b c p.taken f.0 p.hears f.1;
  held = f.2 ∙ ap (λ v. v ++ f.0) p.held ∙ append_assoc h p.taken f.0;
}

pub takes_off : (h i j : List ℕ) (a b : Origin) (f : Frame) → Holds h a i b → front i ≡ Whole f j → IsGood f → TakesOff f h j a b
takes_off h i j a b f p e good = record {
  taken = p.taken;
  hears = p.hears;
  whole = λ more. ap front (sym (append_assoc h p.taken more) ∙ ap (λ v. v ++ more) (sym p.held)) ∙ whole-append i more f j e;
  good = good;
}

pub took_off : (h i j : List ℕ) (a b : Origin) (r : Next) (f : Frame) → Holds h a i b → Answers r i j → HasGoodFrame r → r ≡ next.Frame f → TakesOff f h j a b
took_off h i j a b r f p ans good e = takes_off h i j a b f p (subst (λ (v : Next). Answers v i j) e ans) (subst HasGoodFrame e good)

pub needs : (r : Next) (i j : List ℕ) → Answers r i j → r ≡ next.Need → (front i ≡ Partial) × (j ≡ i)
needs r i j ans e = subst (λ (v : Next). Answers v i j) e ans

pub finds_bad : (h i : List ℕ) (a b : Origin) (n : ℕ) → Holds h a i b → front i ≡ Malformed n → FindsNone (BadFrame n) h a b
finds_bad h i a b n p e = record { taken = p.taken; hears = p.hears; why = ap front (sym p.held) ∙ e }

pub lacks : (h i : List ℕ) (a b : Origin) → Holds h a i b → FindsNone NoMemory h a b
lacks h i a b p = record { taken = p.taken; hears = p.hears; why = tt }

at_rest : (h i : List ℕ) (a b c : Origin) (p : Holds h a i b) → Hears b c [] → Hears a c p.taken
at_rest h i a b c p e = subst (λ (v : List ℕ). Hears a c v) (append-nil p.taken) (hears_more a b c p.taken [] p.hears e)

pub finds_none : (h i j : List ℕ) (a b c : Origin) (end : PodEnd) → Holds h a i b → front i ≡ Partial → Feeds (Err end) i j b c → FindsNone end h a c
finds_none h i j a b c Closed p e f = record { taken = p.taken; hears = at_rest h i a b c p f.0; why = (ap front (sym p.held) ∙ e, ap resting (sym p.held) ∙ f.1, f.2) }
finds_none h i j a b c ClientCut p e f = record { taken = p.taken; hears = at_rest h i a b c p f.0; why = (ap front (sym p.held) ∙ e, ap resting (sym p.held) ∙ f.1, f.2) }
finds_none h i j a b c ReadFault p e f = record { taken = p.taken; hears = at_rest h i a b c p f.0; why = (ap front (sym p.held) ∙ e, rose_from a.faults b.faults c.faults p.hears.faults f.1) }
finds_none h i j a b c NoMemory p e f = record { taken = p.taken ++ f.0; hears = hears_more a b c p.taken f.0 p.hears f.1; why = tt }
finds_none h i j a b c (BadFrame n) p e f = absurd f
finds_none h i j a b c BadStartup p e f = absurd f
finds_none h i j a b c AuthRefused p e f = absurd f
finds_none h i j a b c WriteFault p e f = absurd f
finds_none h i j a b c (JournalFull n) p e f = absurd f

pub needed_none : (h i j n : List ℕ) (a b c : Origin) (r : Next) (end : PodEnd) → Holds h a i b → Answers r i j → r ≡ next.Need → Feeds (Err end) j n b c → FindsNone end h a c
needed_none h i j n a b c r end p ans e f =
    let x = needs r i j ans e in
    finds_none h i n a b c end p x.0 (subst (λ (v : List ℕ). Feeds (Err end) v n b c) x.1 f)
