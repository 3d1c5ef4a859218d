use Rattle.std.proofs.Common.{◌≡◌, ℕ, List, map, Option, Some, codes, refl, sym, ap, ◌∙◌}
use Rattle.clap.specs.Walk.{Row, Text, first_of, rows_of}
use Rattle.clap.specs.Matches.{found_of}
use Rattle.clap.proofs.WalkLemmas.{first_value-rows}
use Rattle.server_console.specs.Asking.{Serves, ServesBy, rows_given}
use Rattle.server_console.specs.declared.words.Asked.{Asked}
use Rattle.server_console.proofs.words.serve_asked.Goals as goal

joined : (given : Option (List Row)) (rows : List Row) (file count : Option Text) (a : Asked) → given ≡ Some rows → file ≡ first_of (codes "config") rows
    → count ≡ first_of (codes "sessions") rows → Serves file count a → ServesBy given a
joined given rows file count a e f n h = rw (e, sym f, sym n) h

pub returns : goal.returns
returns c =
    let f = found_of c.in-Some.matches in
    joined (rows_given c.args.words.now) (rows_of f) _ _ c.in_ok-asked.asked
    (ap rows_given (sym c.in_ok-texts.ensures) ∙ ap (λ v. rows_given (map (λ w. w.now) v)) (sym c.as_slice.ensures.value) ∙ sym c.in_ok-matches.ensures ∙ rw c.in-Some.is refl)
    (c.get_str.ensures ∙ first_value-rows f (codes "config"))
    (c.get_str-2.ensures ∙ first_value-rows f (codes "sessions"))
    c.in_ok-asked.ensures
