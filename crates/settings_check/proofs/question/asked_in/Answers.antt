use Rattle.std.proofs.Common.{◌≡◌, ℕ, List, Option, codes, ◌∙◌}
use Rattle.clap.specs.Matches.{found_of}
use Rattle.clap.proofs.WalkLemmas.{first_value-rows}
use Rattle.settings_check.specs.Questions.{asked_by}
use Rattle.settings_check.proofs.question.asked_in.Goals as goal

alike : {a b t u n m : Option (List ℕ)} → a ≡ b → t ≡ u → n ≡ m → asked_by a t n ≡ asked_by b u m
alike p q r = λ i. asked_by (p i) (q i) (r i)

pub returns : goal.returns
returns c =
    let f = found_of c.args.matches.now in
    c.asked_by.ensures ∙ alike (c.get_str.ensures ∙ first_value-rows f (codes "addr")) (c.get_str-2.ensures ∙ first_value-rows f (codes "tenant")) (c.get_str-3.ensures ∙ first_value-rows f (codes "now"))
