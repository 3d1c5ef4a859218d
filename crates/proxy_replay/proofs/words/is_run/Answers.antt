use Rattle.std.proofs.Common.{◌≡◌, ◌≤◌, ◌<◌, ℕ, List, [], ◌∷◌, length, get_or, inl, inr, sym, ap, ◌∙◌, arith}
use Rattle.std.specs.Prelude.{codes}
use Rattle.proxy_replay.specs.Replaying.{IsRun}
use Rattle.proxy_replay.proofs.words.is_run.Goals as goal

alone : (words : List (List ℕ)) (word : List ℕ) → 1 ≤ length words → length words < 2 → word ≡ get_or words 0 word → words ≡ word ∷ []
alone [] word some few is = absurd (omega arith)
alone (w ∷ []) word some few is = ap (λ (x : List ℕ). x ∷ []) (sym is)
alone (w ∷ v ∷ words) word some few is = absurd (omega arith)

both : (words : List (List ℕ)) (word kind : List ℕ) → 2 ≤ length words → length words < 3 → word ≡ get_or words 0 word → kind ≡ get_or words 1 kind → words ≡ word ∷ kind ∷ []
both [] word kind some few is then_is = absurd (omega arith)
both (w ∷ []) word kind some few is then_is = absurd (omega arith)
both (w ∷ v ∷ []) word kind some few is then_is = let a : word ≡ w = is in let b : kind ≡ v = then_is in cc
both (w ∷ v ∷ u ∷ words) word kind some few is then_is = absurd (omega arith)

run_alone : (words : List (List ℕ)) (word : List ℕ) → words ≡ word ∷ [] → IsRun words → word ≡ codes "run"
run_alone words word is (inl e) = let same : word ∷ [] ≡ codes "run" ∷ [] = sym is ∙ e in cc
run_alone words word is (inr e) = absurd (let same : word ∷ [] ≡ codes "run" ∷ codes "tally" ∷ [] = sym is ∙ e in cc)

run_both : (words : List (List ℕ)) (word kind : List ℕ) → words ≡ word ∷ kind ∷ [] → IsRun words → (word ≡ codes "run") × (kind ≡ codes "tally")
run_both words word kind is (inl e) = absurd (let same : word ∷ kind ∷ [] ≡ codes "run" ∷ [] = sym is ∙ e in cc)
run_both words word kind is (inr e) = let same : word ∷ kind ∷ [] ≡ codes "run" ∷ codes "tally" ∷ [] = sym is ∙ e in (cc, cc)

pub returns-in-len1 : goal.returns-in-len1
returns-in-len1 c =
    let one : c.args.words.now ≡ c.word-item.result ∷ [] = alone c.args.words.now c.word-item.result (omega arith) (omega arith) c.word-item.is in (
      λ yes. inl (one ∙ ap (λ (x : List ℕ). x ∷ []) (c.is_word.ensures.0 yes)),
      λ is. c.is_word.ensures.1 (run_alone c.args.words.now c.word-item.result one is),
    )

pub returns-in-len2 : goal.returns-in-len2
returns-in-len2 c =
    let two : c.args.words.now ≡ c.word-item-then-words-lt3.result ∷ c.kind-item.result ∷ [] = both c.args.words.now c.word-item-then-words-lt3.result c.kind-item.result (omega arith) (omega arith) c.word-item-then-words-lt3.is c.kind-item.is in (
      λ yes. let t = c.is_tally_run.ensures.0 yes in inr (two ∙ (let a = t.0 in let b = t.1 in cc)),
      λ is. c.is_tally_run.ensures.1 (run_both c.args.words.now c.word-item-then-words-lt3.result c.kind-item.result two is),
    )
