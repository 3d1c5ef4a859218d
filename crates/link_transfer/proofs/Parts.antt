-- Messages that are read part by part.
use Rattle.std.proofs.Common.{◌≡◌, ℕ, ◌+◌, ◌-◌, ◌^◌, ◌≤◌, ◌<◌, List, [], ◌∷◌, ◌++◌, length, take, suc, refl, ap, sym, ◌∙◌, subst, ◌⊎◌, inl, inr, arith, length-take, length-append, append_assoc}
use Rattle.std.specs.Prelude.{get_or, slice_index_or, Err}
use Rattle.std.specs.Int.{w32, from_be_bytes, to_be_bytes}
use Rattle.std.proofs.lemmas.Nat.{be_bytes_4}
use Rattle.std.proofs.lemmas.Grind.{common_steps}
use Rattle.pgw_frames.specs.Frames.{frame_bytes, IsGood, length_field, is_bad_length}
use Rattle.pgw_frames.specs.declared.frame.Frame.{Frame}
use Rattle.proxy_outside.specs.Reading.{Origin, Rose}
use Rattle.link_io.specs.Reading.{ReadOn, ReadPart, ReadShort, ReadsExactly}
use Rattle.link_io.specs.declared.read.ReadCut.{ReadCut}
use Rattle.link_io.specs.declared.read.ReadCut.TheVariants as cut
use Rattle.link_io.proofs.Parts.{read_none, read_more}
use Rattle.transfer_stages.specs.declared.stage.Cut.{Cut}
use Rattle.transfer_stages.specs.declared.stage.Cut.TheVariants.{ReadFault, WriteFault, Ended, BadLength, Unexpected, Strayed, Late}
use Rattle.link_transfer.specs.Hearing.{Hears, Why, Short, cut_of, head_bytes, InBody, IsPart, BadHead, WhyPart, Breaks, Comes, Heads, Skips, Drops}
use Rattle.link_transfer.specs.declared.message.Head.{Head}

pub hears_none : (n : ℕ) (s : Origin) → Hears n n s s []
hears_none n s = record { idles = 0; counted = omega arith; read = read_none s }

pub hears_more : (a b c : ℕ) (one two three : Origin) (xs ys : List ℕ) → Hears a b one two xs → Hears b c two three ys → Hears a c one three (xs ++ ys)
hears_more a b c one two three xs ys p q = record {
  idles = p.idles + q.idles;
  counted = let e = p.counted in let f = q.counted in omega arith;
  read = read_more one two three xs ys p.idles q.idles p.read q.read;
}

pub hears_as : (a b : ℕ) (one two : Origin) (xs ys : List ℕ) → xs ≡ ys → Hears a b one two xs → Hears a b one two ys
hears_as a b one two xs ys e p = subst (λ (v : List ℕ). Hears a b one two v) e p

part_hears : (waited waits at : ℕ) (buf : List ℕ) (old new : Origin) → ReadPart waited buf old new at waits → Hears waited waits old new (take at buf)
part_hears waited waits at buf old new p = record { idles = waits - waited; counted = let m = p.more in omega arith; read = p.read }

short_length : (at : ℕ) (buf : List ℕ) → at < length buf → length (take at buf) < length buf
short_length at buf h = let e = length-take at buf in omega arith

short_by : (c : Cut) (waited patience waits : ℕ) (buf : List ℕ) (old new : Origin) → ReadShort waited buf old new waits → Why c waits patience old new → Short c waited patience (length buf) old new
short_by c waited patience waits buf old new r w = record {
  waits = waits;
  part = take r.at buf;
  fewer = short_length r.at buf r.short;
  heard = part_hears waited waits r.at buf old new r.part;
  why = w;
}

-- why a reading broke off
pub short_cut : (e : ReadCut) (waited patience : ℕ) (buf : List ℕ) (old new : Origin) → ReadsExactly waited patience buf old new (Err e) → Short (cut_of e) waited patience (length buf) old new
short_cut cut.Fault waited patience buf old new h = short_by ReadFault waited patience h.0.0 buf old new h.0.1 h.1
short_cut cut.Ended waited patience buf old new h = short_by Ended waited patience h.0.0 buf old new h.0.1 h.1
short_cut (cut.Late n) waited patience buf old new h = short_by (Late n) waited patience n buf old new h.0 (refl, h.1)

-- ---- so many bytes

pub skips_none : (a patience : ℕ) (s : Origin) → a < patience → Skips a a patience 0 s s
skips_none a patience s h = record { bytes = []; all = refl; heard = hears_none a s; patient = h }

pub skips_more : (a b c patience k m n : ℕ) (one two three : Origin) (ys : List ℕ) → Skips a b patience k one two → length ys ≡ m → k + m ≡ n → Hears b c two three ys → c < patience
    → Skips a c patience n one three
skips_more a b c patience k m n one two three ys p l e q h = record {
  bytes = p.bytes ++ ys;
  all = let z = p.all in let s = length-append p.bytes ys in omega arith;
  heard = hears_more a b c one two three p.bytes ys p.heard q;
  patient = h;
}

rose_after : (one two three : Origin) → one.faults ≤ two.faults → Rose two.faults three.faults → Rose one.faults three.faults
rose_after one two three h r = omega arith

why_after : (c : Cut) (waits patience : ℕ) (one two three : Origin) → one.faults ≤ two.faults → Why c waits patience two three → Why c waits patience one three
why_after ReadFault waits patience one two three h w = rose_after one two three h w
why_after Ended waits patience one two three h w = w
why_after (Late n) waits patience one two three h w = w
why_after WriteFault waits patience one two three h w = absurd w
why_after (BadLength n) waits patience one two three h w = absurd w
why_after (Unexpected f) waits patience one two three h w = absurd w
why_after (Strayed g) waits patience one two three h w = absurd w

pub short_after : (c : Cut) (a b patience k m n : ℕ) (one two three : Origin) → Skips a b patience k one two → k + m ≤ n → Short c b patience m two three → Short c a patience n one three
short_after c a b patience k m n one two three p room q = record {
  waits = q.waits;
  part = p.bytes ++ q.part;
  fewer = let z = p.all in let s = length-append p.bytes q.part in let f = q.fewer in omega arith;
  heard = hears_more a b q.waits one two three p.bytes q.part p.heard q.heard;
  why = why_after c q.waits patience one two three p.heard.read.faults q.why;
}

-- ---- a message

pub head_is : (h : List ℕ) (n : ℕ) → length h ≡ 5 → ((i : ℕ) → get_or h i 0 < 256) → n ≡ from_be_bytes w32 (slice_index_or h 1 0 ∷ slice_index_or h 2 0 ∷ slice_index_or h 3 0 ∷ slice_index_or h 4 0 ∷ []) → 4 ≤ n
    → h ≡ head_bytes (slice_index_or h 0 0) (n - 4)
head_is (a ∷ b ∷ c ∷ d ∷ e ∷ []) n l range is h =
    let same : n - 4 + 4 ≡ n = omega arith in
    ap (λ (v : List ℕ). a ∷ v) (sym (be_bytes_4 (b ∷ c ∷ d ∷ e ∷ []) n refl (λ i. range (suc i)) is)) ∙ ap (λ (k : ℕ). a ∷ to_be_bytes w32 k) (sym same)
head_is [] n l range is h = absurd cc
head_is (a ∷ []) n l range is h = absurd cc
head_is (a ∷ b ∷ []) n l range is h = absurd cc
head_is (a ∷ b ∷ c ∷ []) n l range is h = absurd cc
head_is (a ∷ b ∷ c ∷ d ∷ []) n l range is h = absurd cc
head_is (a ∷ b ∷ c ∷ d ∷ e ∷ f ∷ more) n l range is h = absurd cc

-- a head that broke off
pub head_broke : (c : Cut) (a patience : ℕ) (one two : Origin) → Short c a patience 5 one two → Breaks c a patience one two
head_broke c a patience one two s = record { waits = s.waits; part = s.part; heard = s.heard; why = by_cut c s.waits s.part (inl s.fewer) s.why } where
  by_cut : (c : Cut) (waits : ℕ) (part : List ℕ) → IsPart part → Why c waits patience one two → WhyPart c waits patience one two part
  by_cut ReadFault waits part i w = (i, w)
  by_cut Ended waits part i w = (i, w.0, w.1)
  by_cut (Late n) waits part i w = (i, w.0, w.1)
  by_cut WriteFault waits part i w = absurd w
  by_cut (BadLength n) waits part i w = absurd w
  by_cut (Unexpected f) waits part i w = absurd w
  by_cut (Strayed g) waits part i w = absurd w

-- a body that broke off, behind its head
pub body_broke : (c : Cut) (a patience : ℕ) (h : Head) (one two three : Origin) → Heads h a patience one two → Short c h.waits patience h.len two three → Breaks c a patience one three
body_broke c a patience h one two three p s = record {
  waits = s.waits;
  part = head_bytes h.tag h.len ++ s.part;
  heard = hears_more a h.waits s.waits one two three (head_bytes h.tag h.len) s.part p.heard s.heard;
  why = by_cut c (inr (record { tag = h.tag; len = h.len; good = p.good; body = s.part; short = s.fewer; whole = refl })) (why_after c s.waits patience one two three p.heard.read.faults s.why);
} where
  by_cut : (c : Cut) → IsPart (head_bytes h.tag h.len ++ s.part) → Why c s.waits patience one three → WhyPart c s.waits patience one three (head_bytes h.tag h.len ++ s.part)
  by_cut ReadFault i w = (i, w)
  by_cut Ended i w = (i, w.0, w.1)
  by_cut (Late n) i w = (i, w.0, w.1)
  by_cut WriteFault i w = absurd w
  by_cut (BadLength n) i w = absurd w
  by_cut (Unexpected f) i w = absurd w
  by_cut (Strayed g) i w = absurd w

-- a head and so many bytes behind it are a message
pub comes_whole : (a b patience : ℕ) (h : Head) (body : List ℕ) (one two three : Origin) → Heads h a patience one two → length body ≡ h.len → Hears h.waits b two three body → b < patience
    → Comes (record { tag = h.tag; body = body }) a b patience one three
comes_whole a b patience h body one two three p l q m = record {
  good = let g = p.good in omega arith;
  heard = hears_as a b one three (head_bytes h.tag h.len ++ body) (h.tag ∷ to_be_bytes w32 (length body + 4) ++ body) (ap (λ (k : ℕ). head_bytes h.tag k ++ body) (sym l)) (hears_more a h.waits b one two three (head_bytes h.tag h.len) body p.heard q);
  patient = m;
}

pub comes_dropped : (a b patience : ℕ) (h : Head) (one two three : Origin) → Heads h a patience one two → Skips h.waits b patience h.len two three → Drops h.tag a b patience one three
comes_dropped a b patience h one two three p s = record {
  message = record { tag = h.tag; body = s.bytes };
  tagged = refl;
  comes = comes_whole a b patience h s.bytes one two three p s.all s.heard s.patient;
}

pub heads_by : (a b patience tag len : ℕ) (h : List ℕ) (one two : Origin) → len ≤ 16777216 → h ≡ head_bytes tag len → Hears a b one two h → b < patience → Heads (record { tag = tag; len = len; waits = b }) a patience one two
heads_by a b patience tag len h one two good e p m = record { good = good; heard = hears_as a b one two h (head_bytes tag len) e p; patient = m }

pub head_bad : (a b n patience : ℕ) (h : List ℕ) (one two : Origin) → BadHead h n → Hears a b one two h → Breaks (BadLength n) a patience one two
head_bad a b n patience h one two bad p = record { waits = b; part = h; heard = p; why = bad }
