use Rattle.std.proofs.Common.{◌≡◌, ◌<◌, ◌++◌, List, ℕ, [], ◌∷◌, length, min, sym, ap, ◌∙◌, arith, append_assoc, take, drop, Bool, false, eqb}
use Rattle.std.proofs.lemmas.Bool.{eqb-true}
use Rattle.std.proofs.lemmas.List.{append-nil, nil_from_length}
use Rattle.hex.specs.Hex.{encode_lower}
use Rattle.proxy_replay.specs.Report.{hex_lines}
use Rattle.proxy_replay.proofs.HexRows.{hex_nil, hex_row}
use Rattle.proxy_replay.proofs.report.add_rows.Goals as goal

pub loop-rest-preserved : goal.loop-rest-preserved
loop-rest-preserved c =
    let rest : List ℕ = c.loop-rest.rest.now in
    let some : 0 < length rest = some_from rest (c.is_empty.ensures) c.loop-rest-test.true in
    let row : hex_lines rest ≡ encode_lower (take (min (length rest) 32) rest) ++ 10 ∷ hex_lines (drop (min (length rest) 32) rest) = hex_row rest some in
    let out : List ℕ = c.loop-rest.out in
    let count : c.min.result ≡ min (length rest) 32 = c.min.ensures in
    let front : c.split_at.result.0.now ≡ take (min (length rest) 32) rest = c.split_at.ensures.front ∙ ap (λ n. take n rest) count in
    let back : c.split_at.result.1.now ≡ drop (min (length rest) 32) rest = c.split_at.ensures.back ∙ ap (λ n. drop n rest) count in
    let one : c.add_row.new.out ≡ out ++ encode_lower (take (min (length rest) 32) rest) ++ 10 ∷ [] = c.in_ok-add_row.ensures ∙ ap (λ t. out ++ encode_lower t ++ 10 ∷ []) front in
    let i : out ++ hex_lines rest ≡ c.args.out.now ++ hex_lines c.args.bytes.now = c.loop-rest.invariant in
    let all : c.add_row.new.out ++ hex_lines c.split_at.result.1.now ≡ out ++ hex_lines rest =
    rw (one, back, row) (simp append_assoc) in
    all ∙ i
  where
    some_from : (xs : List ℕ) {b : Bool} → b ≡ eqb (length xs) 0 → b ≡ false → 0 < length xs
    some_from [] e f = absurd cc
    some_from (x ∷ xs) e f = omega arith

pub returns : goal.returns
returns c =
    let none : c.loop-rest.rest.now ≡ [] = nil_from_length c.loop-rest.rest.now (eqb-true _ _ (sym c.is_empty.ensures ∙ c.loop-rest-test.false)) in
    let i : c.loop-rest.out ++ hex_lines c.loop-rest.rest.now ≡ c.args.out.now ++ hex_lines c.args.bytes.now = c.loop-rest.invariant in
    let j : c.loop-rest.out ++ hex_lines c.loop-rest.rest.now ≡ c.loop-rest.out = rw (none, hex_nil) (append-nil c.loop-rest.out) in
    sym j ∙ i
