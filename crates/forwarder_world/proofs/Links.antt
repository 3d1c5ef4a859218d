-- What a link carries, both ways.
use Rattle.std.proofs.Common.{◌≡◌, ℕ, ◌+◌, Bool, true, false, List, [], ◌∷◌, ◌++◌, length, take, drop, Some, refl, sym, ap, subst, ◌∙◌, arith, append_assoc}
use Rattle.std.specs.Prelude.{slice_get}
use Rattle.std.specs.List.{AllByRecursion}
use Rattle.std.proofs.lemmas.List.{append-nil, take-append-drop, length_push}
use Rattle.pgw_frames.specs.declared.frame.Frame.{Frame}
use Rattle.pgw_frames.specs.Frames.{frames, frame_bytes, render, IsGood, Begins}
use Rattle.forwarder_world.proofs.Lists.{begins_trans, begins_get, render-append, frames_of_rendered, frames_of_take, good_get, good-append, frames_begin}

-- the pod took the messages told, and those ahead are on their way
pub record Sends (sent : List ℕ) (taken : ℕ) (told ahead : List Frame) : Type 0 where
  pub sent_is : sent ≡ render (told ++ ahead)
  pub taken_is : length told ≡ taken
  pub sent_good : AllByRecursion IsGood (told ++ ahead)

-- the messages gone were read, and those owed are still to be read
pub record Gets (got : List ℕ) (cut : Bool) (out : ℕ) (gone owed : List Frame) : Type 0 where
  pub begins : Begins got (render (gone ++ owed))
  pub whole : cut ≡ false → got ≡ render (gone ++ owed)
  pub got_good : AllByRecursion IsGood (gone ++ owed)
  pub out_is : length gone ≡ out

pub render_push : (fs : List Frame) (f : Frame) → render fs ++ frame_bytes f ≡ render (fs ++ f ∷ [])
render_push fs f = rw (render-append fs (f ∷ [])) (ap (λ (t : List ℕ). render fs ++ t) (sym (append-nil (frame_bytes f))))

pub push_to : (xs : List Frame) (f : Frame) (ys : List Frame) → xs ++ f ∷ ys ≡ (xs ++ f ∷ []) ++ ys
push_to xs f ys = sym (append_assoc xs (f ∷ []) ys)

-- what stands at the end of a front
pub at_front : (xs ys : List Frame) (f : Frame) → slice_get (xs ++ ys) (length xs) ≡ Some f → (more : List Frame) × (ys ≡ f ∷ more)
at_front [] [] f e = absurd cc
at_front [] (y ∷ ys) f e = (ys, let q : y ≡ f = grind arith in rw q refl)
at_front (x ∷ xs) ys f e = at_front xs ys f e

pub sends_push : (sent : List ℕ) (taken : ℕ) (told ahead : List Frame) (f : Frame) → IsGood f → Sends sent taken told ahead → Sends (sent ++ frame_bytes f) taken told (ahead ++ f ∷ [])
sends_push sent taken told ahead f good h = record {
  sent_is = rw (h.sent_is, render_push (told ++ ahead) f, append_assoc told ahead (f ∷ [])) refl;
  taken_is = h.taken_is;
  sent_good = rw (← append_assoc told ahead (f ∷ [])) (good-append (told ++ ahead) (f ∷ []) h.sent_good (good, tt));
}

pub sends_next : (n : ℕ) (sent : List ℕ) (taken : ℕ) (told ahead : List Frame) (f : Frame) → Sends sent taken told ahead → slice_get (frames (take n sent)) taken ≡ Some f → (more : List Frame) × (ahead ≡ f ∷ more)
sends_next n sent taken told ahead f h e =
    let all : frames sent ≡ told ++ ahead = rw h.sent_is (frames_of_rendered (told ++ ahead) h.sent_good) in
    let at : slice_get (told ++ ahead) taken ≡ Some f = subst (λ (t : List Frame). slice_get t taken ≡ Some f) all (begins_get (frames (take n sent)) (frames sent) taken f (frames_of_take n sent) e) in
    at_front told ahead f (rw h.taken_is at)

pub sends_take : (sent : List ℕ) (taken : ℕ) (told more : List Frame) (f : Frame) → Sends sent taken told (f ∷ more) → Sends sent (taken + 1) (told ++ f ∷ []) more
sends_take sent taken told more f h = record {
  sent_is = rw (← push_to told f more) h.sent_is;
  taken_is = length_push told f ∙ ap (λ n. n + 1) h.taken_is;
  sent_good = rw (← push_to told f more) h.sent_good;
}

pub sends_good : (sent : List ℕ) (taken : ℕ) (told more : List Frame) (f : Frame) → Sends sent taken told (f ∷ more) → IsGood f
sends_good sent taken told more f h = good_get (told ++ f ∷ more) (length told) f h.sent_good (there told)
  where
    there : (xs : List Frame) → slice_get (xs ++ f ∷ more) (length xs) ≡ Some f
    there [] = refl
    there (x ∷ xs) = there xs

-- the frames of what came begin those that were sent
pub gets_frames : (got : List ℕ) (cut : Bool) (out : ℕ) (gone owed : List Frame) → Gets got cut out gone owed → Begins (frames got) (gone ++ owed)
gets_frames got cut out gone owed h = subst (λ (t : List Frame). Begins (frames got) t) (frames_of_rendered (gone ++ owed) h.got_good) (frames_begin got (render (gone ++ owed)) h.begins)

pub gets_next_all : (got : List ℕ) (cut : Bool) (out : ℕ) (gone owed : List Frame) (f : Frame) → Gets got cut out gone owed → slice_get (frames got) out ≡ Some f → (more : List Frame) × (owed ≡ f ∷ more)
gets_next_all got cut out gone owed f h e = at_front gone owed f (rw h.out_is (begins_get (frames got) (gone ++ owed) out f (gets_frames got cut out gone owed h) e))

pub gets_next : (n : ℕ) (got : List ℕ) (cut : Bool) (out : ℕ) (gone owed : List Frame) (f : Frame) → Gets got cut out gone owed → slice_get (frames (take n got)) out ≡ Some f → (more : List Frame) × (owed ≡ f ∷ more)
gets_next n got cut out gone owed f h e = gets_next_all got cut out gone owed f h (begins_get (frames (take n got)) (frames got) out f (frames_of_take n got) e)

pub gets_take : (got : List ℕ) (cut : Bool) (out : ℕ) (gone more : List Frame) (f : Frame) → Gets got cut out gone (f ∷ more) → Gets got cut (out + 1) (gone ++ f ∷ []) more
gets_take got cut out gone more f h = record {
  begins = rw (← push_to gone f more) h.begins;
  whole = λ c. rw (← push_to gone f more) (h.whole c);
  got_good = rw (← push_to gone f more) h.got_good;
  out_is = length_push gone f ∙ ap (λ n. n + 1) h.out_is;
}

pub gets_grow : (got : List ℕ) (cut : Bool) (out : ℕ) (gone owed new : List Frame) → cut ≡ false → AllByRecursion IsGood new → Gets got cut out gone owed → Gets (got ++ render new) cut out gone (owed ++ new)
gets_grow got cut out gone owed new uncut good h =
    let is : got ++ render new ≡ render (gone ++ (owed ++ new)) = rw (h.whole uncut, ← render-append (gone ++ owed) new, append_assoc gone owed new) refl in
    record {
      begins = ([], append-nil (got ++ render new) ∙ is);
      whole = λ c. is;
      got_good = rw (← append_assoc gone owed new) (good-append (gone ++ owed) new h.got_good good);
      out_is = h.out_is;
    }

pub gets_cut : (n : ℕ) (got : List ℕ) (cut : Bool) (out : ℕ) (gone owed : List Frame) → Gets got cut out gone owed → Gets (take n got) true out gone owed
gets_cut n got cut out gone owed h = record {
  begins = begins_trans (take n got) got (render (gone ++ owed)) (drop n got, take-append-drop n got) h.begins;
  whole = λ c. absurd cc;
  got_good = h.got_good;
  out_is = h.out_is;
}
