-- Bytes that are written and read part by part.
use Rattle.std.proofs.Common.{◌≡◌, ℕ, ◌+◌, ◌-◌, ◌≤◌, Bool, true, false, List, [], ◌++◌, length, take, drop, Option, Some, None, option_map, refl, ap, sym, ◌∙◌, subst, arith, append_assoc, append-nil}
use Rattle.std.proofs.lemmas.Grind.{common_steps}
use Rattle.std.proofs.lemmas.List.{take-append-le}
use Rattle.std.proofs.Math.Seq.{take-add, take-append-add}
use borrow.Rule.Slice.PartMut.{put_mid, post_of}
use Rattle.proxy_outside.specs.Reading.{Origin, Takes, Stays}
use Rattle.proxy_outside.specs.Writing.{Target}
use Rattle.proxy_links.specs.Told.{push}
use Rattle.link_io.specs.Writing.{Wrote, WroteSome, WritesAll}
use Rattle.link_io.specs.Reading.{RoseBy, ReadOn, ReadPart}

pub push_push : {A : Type 0} (o : Option (List A)) (xs ys : List A) → push (push o xs) ys ≡ push o (xs ++ ys)
push_push None xs ys = refl
push_push (Some bs) xs ys = ap Some (append_assoc bs xs ys)

pub push_nil : {A : Type 0} (o : Option (List A)) → push o [] ≡ o
push_nil None = refl
push_nil (Some bs) = ap Some (append-nil bs)

-- what was left before two readings
pub left_left : (o : Option (List ℕ)) (xs ys : List ℕ) → option_map (λ zs. xs ++ zs) (option_map (λ zs. ys ++ zs) o) ≡ option_map (λ zs. (xs ++ ys) ++ zs) o
left_left None xs ys = refl
left_left (Some bs) xs ys = ap Some (sym (append_assoc xs ys bs))

pub left_nil : (o : Option (List ℕ)) → o ≡ option_map (λ zs. [] ++ zs) o
left_nil None = refl
left_nil (Some bs) = refl

-- ---- writing

pub wrote_none : (k : Target) → Wrote k k []
wrote_none k = record { contents = sym (push_nil k.contents); faults = omega arith; link = refl }

pub wrote_more : (one two three : Target) (xs ys : List ℕ) → Wrote one two xs → Wrote two three ys → Wrote one three (xs ++ ys)
wrote_more one two three xs ys p q = record {
  contents = q.contents ∙ ap (λ v. push v ys) p.contents ∙ push_push one.contents xs ys;
  faults = let f = p.faults in let g = q.faults in omega arith;
  link = q.link ∙ p.link;
}

-- more of the bytes was written
pub wrote_on : (one two three : Target) (bytes : List ℕ) (at n : ℕ) → n ≤ length bytes - at
    → Wrote one two (take at bytes)
    → Wrote two three (take n (take (length bytes - at) (drop at bytes)))
    → Wrote one three (take (at + n) bytes)
wrote_on one two three bytes at n room p q =
    let rest : take (length bytes - at) (drop at bytes) ≡ drop at bytes = grind (arith, common_steps) in
    let all : take at bytes ++ take n (take (length bytes - at) (drop at bytes)) ≡ take (at + n) bytes = ap (λ v. take at bytes ++ take n v) rest ∙ sym (take-add at n bytes) in
    let w = wrote_more one two three (take at bytes) (take n (take (length bytes - at) (drop at bytes))) p q in
    record { contents = w.contents ∙ ap (λ v. push one.contents v) all; faults = w.faults; link = w.link }

-- a part of some bytes is a part of more
pub some_before : (one two : Target) (xs ys : List ℕ) → WroteSome one two xs → WroteSome one two (xs ++ ys)
some_before one two xs ys p =
    let h : p.count ≤ length xs = let s = p.some in omega arith in
    record {
      count = p.count;
      some = let s = p.some in grind (arith, common_steps);
      wrote = record { contents = p.wrote.contents ∙ ap (push one.contents) (sym (take-append-le p.count xs ys h)); faults = p.wrote.faults; link = p.wrote.link };
      rose = p.rose;
    }

-- the rest was written, or a part of it
pub all_more : (b : Bool) (one two three : Target) (xs ys : List ℕ) → Wrote one two xs → WritesAll b two three ys → WritesAll b one three (xs ++ ys)
all_more true one two three xs ys p q = wrote_more one two three xs ys p q
all_more false one two three xs ys p q =
    let w = wrote_more one two three xs (take q.count ys) p q.wrote in
    record {
      count = length xs + q.count;
      some = let s = q.some in grind (arith, common_steps);
      wrote = record { contents = w.contents ∙ ap (push one.contents) (sym (take-append-add xs ys q.count)); faults = w.faults; link = w.link };
      rose = let r = q.rose in let f = p.faults in omega arith;
    }

pub some_head : (one two : Target) (head xs ys : List ℕ) → head ≡ xs → WroteSome one two head → WroteSome one two (xs ++ ys)
some_head one two head xs ys e p = some_before one two xs ys (subst (λ v. WroteSome one two v) e p)

pub all_head : (b : Bool) (one two three : Target) (head xs ys : List ℕ) → head ≡ xs → Wrote one two head → WritesAll b two three ys → WritesAll b one three (xs ++ ys)
all_head b one two three head xs ys e p q = all_more b one two three xs ys (subst (λ v. Wrote one two v) e p) q

-- ---- reading

pub read_none : (s : Origin) → ReadOn s s [] 0
read_none s = record { taken = sym (push_nil s.taken); left = left_nil s.left; link = refl; faults = omega arith; waits = omega arith }

pub read_more : (one two three : Origin) (xs ys : List ℕ) (m n : ℕ) → ReadOn one two xs m → ReadOn two three ys n → ReadOn one three (xs ++ ys) (m + n)
read_more one two three xs ys m n p q = record {
  taken = q.taken ∙ ap (λ v. push v ys) p.taken ∙ push_push one.taken xs ys;
  left = p.left ∙ ap (option_map (λ zs. xs ++ zs)) q.left ∙ left_left three.left xs ys;
  link = q.link ∙ p.link;
  faults = let f = p.faults in let g = q.faults in omega arith;
  waits = let f = p.waits in let g = q.waits in omega arith;
}

-- one read, as a part of many
pub got_on : (old new : Origin) (bytes : List ℕ) → Takes old new bytes → old.faults ≤ new.faults → old.waits ≤ new.waits → new.link ≡ old.link → ReadOn old new bytes 0
got_on old new bytes t f w l = record { taken = t.taken; left = t.left; link = l; faults = f; waits = omega arith }

pub stay_on : (old new : Origin) (n : ℕ) → Stays old new → old.faults ≤ new.faults → RoseBy old.waits n new.waits → new.link ≡ old.link → ReadOn old new [] n
stay_on old new n t f w l = record {
  taken = t.taken ∙ sym (push_nil old.taken);
  left = sym t.left ∙ left_nil new.left;
  link = l;
  faults = f;
  waits = w;
}

take_part : (xs ys : List ℕ) (a n : ℕ) → a ≤ length xs → length ys ≡ length xs - a → n ≤ length ys
    → take (a + n) (put_mid a (length xs - a) xs ys) ≡ take a xs ++ take n ys
take_part xs ys a n h k m =
    let front : length (take a xs) ≡ a = grind (arith, common_steps) in
    let le = take-append-le n ys (post_of a (length xs - a) xs) m in
    ap (λ v. take (v + n) (put_mid a (length xs - a) xs ys)) (sym front) ∙ take-append-add (take a xs) (ys ++ post_of a (length xs - a) xs) n ∙ ap (λ v. take a xs ++ v) le

-- more of the buffer was filled
pub part_more : (waited at n waits : ℕ) (buf sub : List ℕ) (s0 s1 s2 : Origin) → length sub ≡ length buf - at → n ≤ length sub
    → ReadPart waited buf s0 s1 at waits → ReadOn s1 s2 (take n sub) 0
    → ReadPart waited (put_mid at (length buf - at) buf sub) s0 s2 (at + n) waits
part_more waited at n waits buf sub s0 s1 s2 same room p e =
    let r = read_more s0 s1 s2 (take at buf) (take n sub) (waits - waited) 0 p.read e in
    let b : take at buf ++ take n sub ≡ take (at + n) (put_mid at (length buf - at) buf sub) = sym (take_part buf sub at n p.within same room) in
    record {
      within = let w = p.within in grind (arith, common_steps);
      more = p.more;
      read = record {
        taken = r.taken ∙ ap (push s0.taken) b;
        left = r.left ∙ ap (λ xs. option_map (λ zs. xs ++ zs) s2.left) b;
        link = r.link;
        faults = r.faults;
        waits = let w = r.waits in omega arith;
      };
    }

-- nothing came, and it may have waited
pub part_still : (waited at waits n : ℕ) (buf : List ℕ) (s0 s1 s2 : Origin)
    → ReadPart waited buf s0 s1 at waits → ReadOn s1 s2 [] n → ReadPart waited buf s0 s2 at (waits + n)
part_still waited at waits n buf s0 s1 s2 p e =
    let r = read_more s0 s1 s2 (take at buf) [] (waits - waited) n p.read e in
    let b : take at buf ++ [] ≡ take at buf = append-nil (take at buf) in
    record {
      within = p.within;
      more = let w = p.more in omega arith;
      read = record {
        taken = r.taken ∙ ap (push s0.taken) b;
        left = r.left ∙ ap (λ xs. option_map (λ zs. xs ++ zs) s2.left) b;
        link = r.link;
        faults = r.faults;
        waits = let w = r.waits in let m = p.more in omega arith;
      };
    }
