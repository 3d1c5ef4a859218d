use Rattle.std.proofs.Common.{sym, ◌∙◌}
use Rattle.std.proofs.lemmas.Slice.Eq.{bytes_eq-Decides}
use Rattle.proxy_replay.proofs.words.is_word.Goals as goal

pub returns : goal.returns
returns c =
    let same = bytes_eq-Decides c.as_str.result.now c.args.wanted.now in
    (λ yes. sym c.as_str.ensures ∙ same.0 (sym c.eq.ensures ∙ yes), λ is. c.eq.ensures ∙ same.1 (c.as_str.ensures ∙ is))
