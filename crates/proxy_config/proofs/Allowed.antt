-- The allow entries of one entry more.
use Rattle.std.proofs.Common.{◌≡◌, ℕ, ◌+◌, ◌<◌, List, [], ◌∷◌, ◌++◌, length, drop, get_or, sym, ap, ◌∙◌, append_assoc, append-nil}
use Rattle.std.proofs.lemmas.List.{drop_more}
use Rattle.access_lists.specs.declared.lists.Allow.{Allow as Entry}
use Rattle.proxy_config.specs.declared.settings.Allow.{Allow}
use Rattle.proxy_config.specs.Settings.{entry_of, all_allowed}

front_first : (old rest : List Entry) (a : Allow) → (old ++ all_allowed (a ∷ [])) ++ rest ≡ old ++ (entry_of a.tenant a.networks ++ rest)
front_first old rest a = simp (append_assoc, append-nil)

pub one_more : (xs : List Allow) (i : ℕ) (a : Allow) (old new total : List Entry) → i < length xs → a ≡ get_or xs i a → new ≡ old ++ all_allowed (a ∷ [])
    → old ++ all_allowed (drop i xs) ≡ total → new ++ all_allowed (drop (i + 1) xs) ≡ total
one_more xs i a old new total lt here e so_far =
    let split : drop i xs ≡ a ∷ drop (i + 1) xs = drop_more xs i a lt ∙ ap (λ b. b ∷ drop (i + 1) xs) (sym here) in
    let whole : old ++ all_allowed (a ∷ drop (i + 1) xs) ≡ total = rw split at so_far in
    let front : new ++ all_allowed (drop (i + 1) xs) ≡ (old ++ all_allowed (a ∷ [])) ++ all_allowed (drop (i + 1) xs) = ap (λ (es : List Entry). es ++ all_allowed (drop (i + 1) xs)) e in
    let both : new ++ all_allowed (drop (i + 1) xs) ≡ old ++ all_allowed (a ∷ drop (i + 1) xs) = front ∙ front_first old (all_allowed (drop (i + 1) xs)) a in
    both ∙ whole
