-- The messages that a link gives, and those that were read of them.
use Rattle.std.proofs.Common.{◌≡◌, ℕ, ◌+◌, ◌<◌, ◌≤◌, true, false, ltb, List, [], ◌++◌, length, Option, Some, None, refl, sym, ap, ◌∙◌, subst, inl, inr, arith, append_assoc, append-nil, length-append}
use Rattle.std.specs.Prelude.{option_map, IfSome}
use Rattle.std.specs.List.{AllByRecursion}
use Rattle.std.proofs.lemmas.Bool.{le-ltb}
use Rattle.std.proofs.lemmas.Nat.{from_be_bytes-to_be_bytes_4}
use Rattle.pgw_frames.specs.Frames.{Whole, Partial, Malformed, front, frames, IsGood, render, length_field, is_bad_length}
use Rattle.pgw_frames.specs.declared.frame.Frame.{Frame}
use Rattle.pgw_frames.proofs.Fronts.{whole_is, few_is, bad-append, frames_none}
use Rattle.pgw_frames.proofs.Longest.{frames_of_render}
use Rattle.proxy_outside.specs.Reading.{Origin, Rose}
use Rattle.link_io.specs.Reading.{RoseBy}
use Rattle.transfer_stages.specs.declared.stage.Cut.{Cut}
use Rattle.transfer_stages.specs.declared.stage.Cut.TheVariants.{ReadFault, WriteFault, Ended, BadLength, Unexpected, Strayed, Late}
use Rattle.link_transfer.specs.Hearing.{Hears, IsPart, BadHead, Breaks, head_bytes}
use Rattle.link_transfer.proofs.Parts.{hears_more, hears_as}
use Rattle.transfer_laws.specs.Accepted.{Gives, Fails}

-- ---- bytes that hold no whole message

few_frames : (b : List ℕ) → length b < 5 → frames b ≡ []
few_frames b h = frames_none b (λ f more e. let k : Partial ≡ Whole f more = sym (few_is b h) ∙ e in cc)

body_length : (tag len : ℕ) (body : List ℕ) → length (head_bytes tag len ++ body) ≡ 5 + length body
body_length tag len body = omega (arith, length-append (head_bytes tag len) body)

body_frames : (tag len : ℕ) (body : List ℕ) → len ≤ 16777216 → length body < len → frames (head_bytes tag len ++ body) ≡ []
body_frames tag len body g h =
    frames_none (head_bytes tag len ++ body)
    (λ f more e.
    let w = whole_is (head_bytes tag len ++ body) f more e in
    let there = w.there in
    let field : length_field (head_bytes tag len ++ body) ≡ len + 4 = from_be_bytes-to_be_bytes_4 (len + 4) (omega arith) in
    let k = body_length tag len body in
    omega arith)

pub part_frames : (part : List ℕ) → IsPart part → frames (part ++ []) ≡ []
part_frames part (inl h) = rw (append-nil part) (few_frames part h)
part_frames part (inr b) = rw (append-nil part, b.whole) (body_frames b.tag b.len b.body b.good b.short)

bad_front : (head : List ℕ) (n : ℕ) → BadHead head n → front head ≡ Malformed (length_field head)
unfolding front
bad_front head n b =
    let a : ltb (length head) 5 ≡ false = le-ltb _ _ (let k = b.whole in omega arith) in
    let c : is_bad_length (length_field head) ≡ true = subst (λ (m : ℕ). is_bad_length m ≡ true) (sym b.field) b.bad in
    rw (a, c) refl

pub bad_frames : (head more : List ℕ) (n : ℕ) → BadHead head n → frames (head ++ more) ≡ []
bad_frames head more n b =
    frames_none (head ++ more) (λ f rest e. let k : Malformed (length_field head) ≡ Whole f rest = sym (bad-append head more (length_field head) (bad_front head n b)) ∙ e in cc)

-- ---- what was heard, and what is left

record LeftBy (o : Option (List ℕ)) (all bytes : List ℕ) : Type 0 where
  rest : List ℕ
  is : o ≡ Some rest
  whole : all ≡ bytes ++ rest

left_by : (o : Option (List ℕ)) (all bytes : List ℕ) → Some all ≡ option_map (λ xs. bytes ++ xs) o → LeftBy o all bytes
left_by None all bytes e = absurd cc
left_by (Some r) all bytes e = record { rest = r; is = refl; whole = cc }

-- the messages that the source gives are those that were heard, and then others
pub record Behind (fs gs : List Frame) (part : List ℕ) (new : Origin) : Type 0 where
  pub rest : List ℕ
  pub left : new.left ≡ Some rest
  pub more : List Frame
  pub same : fs ++ more ≡ gs ++ frames (part ++ rest)

pub heard_part : (a b : ℕ) (old new : Origin) (fs gs : List Frame) (part : List ℕ) → Gives old fs → AllByRecursion IsGood gs → Hears a b old new (render gs ++ part) → Behind fs gs part new
heard_part a b old new fs gs part g good h =
    let l = left_by new.left (render fs ++ g.more) (render gs ++ part) (sym g.left ∙ h.read.left) in
    record {
      rest = l.rest;
      left = l.is;
      more = frames g.more;
      same = sym (frames_of_render fs g.more g.good) ∙ ap frames (l.whole ∙ append_assoc (render gs) part l.rest) ∙ frames_of_render gs (part ++ l.rest) good;
    }

-- whole messages were heard
pub record Others (fs gs : List Frame) : Type 0 where
  pub more : List Frame
  pub rest : List Frame
  pub same : fs ++ more ≡ gs ++ rest

pub heard_whole : (a b : ℕ) (old new : Origin) (fs gs : List Frame) → Gives old fs → AllByRecursion IsGood gs → Hears a b old new (render gs) → Others fs gs
heard_whole a b old new fs gs g good h =
    let l = heard_part a b old new fs gs [] g good (hears_as a b old new (render gs) (render gs ++ []) (sym (append-nil (render gs))) h) in
    record { more = l.more; rest = frames l.rest; same = l.same }

-- ---- a reading that breaks off

pub rose_after : (a b c : ℕ) → a ≤ b → Rose b c → Rose a c
rose_after a b c l r = omega arith

rose_by : (a n m c : ℕ) → n ≤ m → RoseBy a m c → RoseBy a n c
rose_by a n m c l r = omega arith

-- no message more was there, or the source failed
pub data Broke (patience : ℕ) (old new : Origin) (fs gs : List Frame) : Type 0 where
  Failed : Fails patience old new → Broke patience old new fs gs
  Passed : (more : List Frame) → fs ++ more ≡ gs ++ [] → Broke patience old new fs gs

passed_by : (patience : ℕ) (old new : Origin) (fs gs : List Frame) (part : List ℕ) (b : Behind fs gs part new) → frames (part ++ b.rest) ≡ [] → Broke patience old new fs gs
passed_by patience old new fs gs part b e = Passed b.more (b.same ∙ ap (λ (v : List Frame). gs ++ v) e)

ended_rest : (o : Option (List ℕ)) (rest : List ℕ) → o ≡ Some rest → IfSome o (λ xs. xs ≡ []) → rest ≡ []
ended_rest o rest e h = (let g : IfSome (Some rest) (λ xs. xs ≡ []) = subst (λ (v : Option (List ℕ)). IfSome v (λ xs. xs ≡ [])) e h in g)

pub broke : (c : Cut) (w patience : ℕ) (old mid new : Origin) (fs gs : List Frame) → Gives old fs → AllByRecursion IsGood gs → Hears 0 w old mid (render gs) → Breaks c w patience mid new → Broke patience old new fs gs
broke ReadFault w patience old mid new fs gs g good h b = Failed (inl (rose_after old.faults mid.faults new.faults h.read.faults b.why.1))
broke Ended w patience old mid new fs gs g good h b =
    let l = heard_part 0 b.waits old new fs gs b.part g good (hears_more 0 w b.waits old mid new (render gs) b.part h b.heard) in
    let none = ended_rest new.left l.rest l.left b.why.2 in
    passed_by patience old new fs gs b.part l (rw none (part_frames b.part b.why.0))
broke (Late n) w patience old mid new fs gs g good h b =
    let all = hears_more 0 w b.waits old mid new (render gs) b.part h b.heard in
    let counted = all.counted in
    let is = b.why.1 in
    let late = b.why.2 in
    Failed (inr (rose_by old.waits patience all.idles new.waits (omega arith) all.read.waits))
broke (BadLength n) w patience old mid new fs gs g good h b =
    let l = heard_part 0 b.waits old new fs gs b.part g good (hears_more 0 w b.waits old mid new (render gs) b.part h b.heard) in
    passed_by patience old new fs gs b.part l (bad_frames b.part l.rest n b.why)
broke WriteFault w patience old mid new fs gs g good h b = absurd b.why
broke (Unexpected f) w patience old mid new fs gs g good h b = absurd b.why
broke (Strayed t) w patience old mid new fs gs g good h b = absurd b.why
