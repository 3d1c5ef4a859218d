-- What is asked between rounds and at the end tells no moment and no drawn word.
use Rattle.std.proofs.Common.{◌≡◌, ℕ, List, [], ◌∷◌, ◌++◌, Option, Some, None, inl, inr, refl, sym, ap, ◌∙◌, append_assoc}
use Rattle.pgw_messages.specs.declared.pod_key.PodKey.{PodKey}
use Rattle.proxy_outside.specs.declared.identity.SessionNo.{SessionNo}
use Rattle.proxy_hub.specs.declared.command.HubCommand.{HubCommand}
use Rattle.proxy_hub.specs.declared.command.HubCommand.TheVariants.{Assign, Bind, Target, Release}
use Rattle.proxy_hub.specs.declared.reply.HubReply.{HubReply}
use Rattle.proxy_hub.specs.declared.reply.HubReply.TheVariants.{MoveTo}
use Rattle.session_trace.specs.Trace.{Next, Same, Moved, Attempt, Round, all_forwarded, all_relayed}
use Rattle.session_asks.specs.Asks.{Ask, ask, Alone, moments_of, moments_in, words_of, words_in}
use Rattle.session_asks.specs.Between.{Binds, Books, AsksTarget, AsksInRounds}
use Rattle.session_asks.specs.Greetings.{keys_of}
use Rattle.session_opening.proofs.Grown.{Still}

pub moments_more : (xs ys : List Ask) → moments_in (xs ++ ys) ≡ moments_in xs ++ moments_in ys
moments_more [] ys = refl
moments_more (x ∷ xs) ys = ap (λ (v : List ℕ). moments_of x.command ++ v) (moments_more xs ys) ∙ sym (append_assoc (moments_of x.command) (moments_in xs) (moments_in ys))

pub words_more : (xs ys : List Ask) → words_in (xs ++ ys) ≡ words_in xs ++ words_in ys
words_more [] ys = refl
words_more (x ∷ xs) ys = ap (λ (v : List ℕ). words_of x.command ++ v) (words_more xs ys) ∙ sym (append_assoc (words_of x.command) (words_in xs) (words_in ys))

still_none : (as_ : List Ask) → as_ ≡ [] → Still as_
still_none as_ e = record { moments = ap moments_in e; words = ap words_in e }

-- a command without a moment and a word
record IsStill (c : HubCommand) : Type 0 where
  moments : moments_of c ≡ []
  words : words_of c ≡ []

still_one : (c : HubCommand) (r : Option HubReply) (as_ : List Ask) → IsStill c → as_ ≡ ask c r ∷ [] → Still as_
still_one c r as_ s e = record {
  moments = ap moments_in e ∙ ap (λ (v : List ℕ). v ++ []) s.moments;
  words = ap words_in e ∙ ap (λ (v : List ℕ). v ++ []) s.words;
}

still_alone : (c : HubCommand) (as_ : List Ask) → IsStill c → Alone c as_ → Still as_
still_alone c as_ s a = still_one c a.reply as_ s a.alone

pub still_both : (front back as_ : List Ask) → as_ ≡ front ++ back → Still front → Still back → Still as_
still_both front back as_ e p q = record {
  moments = ap moments_in e ∙ moments_more front back ∙ ap (λ (v : List ℕ). v ++ moments_in back) p.moments ∙ q.moments;
  words = ap words_in e ∙ words_more front back ∙ ap (λ (v : List ℕ). v ++ words_in back) p.words ∙ q.words;
}

still_binds : (n : SessionNo) (ks : List PodKey) (as_ : List Ask) → Binds n ks as_ → Still as_
still_binds n [] as_ e = still_none as_ e
still_binds n (k ∷ ks) as_ i = still_both i.front i.back as_ i.whole (still_alone (Bind n k) i.front (record { moments = refl; words = refl }) i.begins) (still_binds n ks i.back i.ends)

still_books : (n : SessionNo) (next : Next) (as_ : List Ask) → Books n next as_ → Still as_
still_books n Same as_ e = still_none as_ e
still_books n (Moved c o) as_ i = still_both i.front i.back as_ i.whole (still_alone (Assign n o.place) i.front (record { moments = refl; words = refl }) i.begins) (still_binds n (keys_of o) i.back i.ends)

still_target : (n : SessionNo) (f g : List ℕ) (r : Round) (a : Option Attempt) (as_ : List Ask) → AsksTarget n f g r a as_ → Still as_
still_target n f g r (Some a) as_ (due, names) =
    still_both (ask (Target n) (Some (MoveTo a.place)) ∷ []) names.booked as_ names.asks (record { moments = refl; words = refl }) (still_books n r.next names.booked names.books)
still_target n f g r None as_ (inl (due, out)) = still_one (Target n) out.reply as_ (record { moments = refl; words = refl }) out.alone
still_target n f g r None as_ (inr (not_due, none)) = still_none as_ none

pub still_rounds : (n : SessionNo) (rs : List Round) (as_ : List Ask) → AsksInRounds n rs as_ → Still as_
still_rounds n [] as_ e = still_none as_ e
still_rounds n (r ∷ rs) as_ i = still_both i.front i.back as_ i.whole (still_rounds n rs i.front i.begins) (still_target n (all_forwarded (r ∷ rs)) (all_relayed (r ∷ rs)) r r.attempt i.back i.ends)

pub still_release : (n : SessionNo) (as_ : List Ask) → Alone (Release n) as_ → Still as_
still_release n as_ a = still_alone (Release n) as_ (record { moments = refl; words = refl }) a
