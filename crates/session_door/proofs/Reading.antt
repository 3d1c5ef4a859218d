-- What was read and written, step after step.
use Rattle.std.proofs.Common.{◌≡◌, ℕ, zero, suc, ◌+◌, ◌-◌, ◌≤◌, ◌<◌, List, [], ◌∷◌, ◌++◌, length, take, refl, sym, ap, ◌∙◌, subst, arith, inr}
use Rattle.std.specs.Prelude.{replicate, Err}
use Rattle.proxy_outside.specs.Reading.{Origin, Rose}
use Rattle.proxy_outside.specs.Writing.{Target}
use Rattle.link_io.specs.Reading.{ReadsExactly}
use Rattle.link_io.specs.Writing.{Wrote, WroteSome}
use Rattle.link_io.specs.declared.read.ReadCut.{ReadCut}
use Rattle.link_io.specs.declared.read.ReadCut.TheVariants as read
use Rattle.link_io.proofs.Parts.{read_none, read_more, wrote_none, wrote_more}
use Rattle.session_door.specs.declared.door.DoorCut.{DoorCut}
use Rattle.session_door.specs.declared.door.DoorCut.TheVariants.{ReadFault, WriteFault, Ended, Late, NoMemory}
use Rattle.session_door.specs.declared.door.Entry.TheVariants.{Cut}
use Rattle.session_door.specs.declared.door.Turn.TheVariants.{Over}
use Rattle.session_door.specs.Entering.{Hears, cut_of, WhyCut, Breaks, Turned, Says}

pub hears_none : (n : ℕ) (s : Origin) → Hears n n s s []
hears_none n s = record { idles = 0; counted = omega arith; read = read_none s }

pub hears_more : (a b c : ℕ) (one two three : Origin) (xs ys : List ℕ) → Hears a b one two xs → Hears b c two three ys → Hears a c one three (xs ++ ys)
hears_more a b c one two three xs ys p q = record {
  idles = p.idles + q.idles;
  counted = let e = p.counted in let f = q.counted in omega arith;
  read = read_more one two three xs ys p.idles q.idles p.read q.read;
}

-- ---- a reading that came to its end

breaks_by : (e : ReadCut) (waited patience : ℕ) (buf : List ℕ) (old new : Origin) → ReadsExactly waited patience buf old new (Err e) → Breaks (cut_of e) waited patience old new
breaks_by read.Fault waited patience buf old new h = record {
  after = h.0.0;
  part = take h.0.1.at buf;
  heard = record { idles = h.0.0 - waited; counted = let m = h.0.1.part.more in omega arith; read = h.0.1.part.read };
  why = h.1;
}
breaks_by read.Ended waited patience buf old new h = record {
  after = h.0.0;
  part = take h.0.1.at buf;
  heard = record { idles = h.0.0 - waited; counted = let m = h.0.1.part.more in omega arith; read = h.0.1.part.read };
  why = h.1;
}
breaks_by (read.Late n) waited patience buf old new h = record {
  after = n;
  part = take h.0.at buf;
  heard = record { idles = n - waited; counted = let m = h.0.part.more in omega arith; read = h.0.part.read };
  why = (refl, h.1);
}

pub stopped : (c : DoorCut) (e : ReadCut) (waited patience : ℕ) (buf fed : List ℕ) (old new : Origin) (k : Target) → c ≡ cut_of e → ReadsExactly waited patience buf old new (Err e)
    → Turned waited patience fed fed old new k k (Over (Cut c))
stopped c e waited patience buf fed old new k is h = inr (record {
  cut = c;
  is = refl;
  unfed = refl;
  silent = refl;
  breaks = subst (λ (x : DoorCut). Breaks x waited patience old new) (sym is) (breaks_by e waited patience buf old new h);
})

-- ---- what was said

abbrev refusals : ℕ → List ℕ
refusals n = replicate n 78

rep_append : (m n : ℕ) → refusals (m + n) ≡ refusals m ++ refusals n
rep_append zero n = let e : 0 + n ≡ n = omega arith in ap refusals e
rep_append (suc m) n = let e : suc m + n ≡ suc (m + n) = omega arith in ap refusals e ∙ ap (λ (v : List ℕ). 78 ∷ v) (rep_append m n)

pub says_none : (k : Target) → Says 0 k k
says_none k = wrote_none k

pub says_more : (m n : ℕ) (one two three : Target) → Says m one two → Says n two three → Says (m + n) one three
says_more m n one two three p q = subst (λ (v : List ℕ). Wrote one three v) (sym (rep_append m n)) (wrote_more one two three (refusals m) (refusals n) p q)

-- a byte of which not all was written
pub says_not : (two three : Target) → WroteSome two three (78 ∷ []) → Says 0 two three
says_not two three w = none w.count w.some w.wrote
  where
    none : (n : ℕ) → n < length {A = ℕ} (78 ∷ []) → Wrote two three (take n (78 ∷ [])) → Says 0 two three
    none zero h v = v
    none (suc n) h v = absurd (omega (arith, h))

pub rose_from : (a b c : ℕ) → a ≤ b → Rose b c → Rose a c
rose_from a b c h r = omega (arith, h, r)

pub why_from : (c : DoorCut) (waits patience : ℕ) (one two three : Origin) → one.faults ≤ two.faults → WhyCut c waits patience two three → WhyCut c waits patience one three
why_from ReadFault waits patience one two three h w = rose_from one.faults two.faults three.faults h w
why_from WriteFault waits patience one two three h w = w
why_from Ended waits patience one two three h w = w
why_from (Late n) waits patience one two three h w = w
why_from NoMemory waits patience one two three h w = w
