-- Cutting tokens one after the other, as a loop does.
use Rattle.std.proofs.Common.{◌≡◌, ℕ, zero, suc, ◌+◌, ◌-◌, ◌≤◌, ◌<◌, Bool, true, false, List, [], ◌∷◌, ◌++◌, length, take, drop, get_or, Result, Ok, Err, refl, sym, ap, ◌∙◌, append_assoc, arith}
use Rattle.std.proofs.lemmas.List.{append-nil, drop-drop, drop_all, length-drop, take_all}
use Rattle.std.specs.Prelude.{if◌then◌else◌, not}
use Rattle.std.specs.Str.{IsUtf8, is_utf8}
use Rattle.std.proofs.lemmas.Str.{IsUtf8-from_is_utf8, is_utf8-from_IsUtf8}
use Rattle.sql_text.proofs.Runs.{cons_at}
use Rattle.sql_text.specs.declared.token.Token.{Token}
use Rattle.sql_text.specs.declared.token.TokenKind.{TokenKind}
use Rattle.sql_text.specs.declared.lexer.Lexeme.{Lexeme}
use Rattle.sql_text.specs.declared.lexer.Lexeme.TheVariants as lex
use Rattle.sql_text.specs.declared.fault.SqlFault.{SqlFault}
use Rattle.sql_text.specs.declared.fault.SqlFault.TheVariants.{BadToken, NumberRange}
use Rattle.sql_text.specs.Tokens.{lexeme_at, is_large, pushed_token, token_by, tokens_by, tokens_up_to, tokens, place}

abbrev pub Cut : Type 0
Cut = Result (List Token) SqlFault

abbrev pub bad_token : ℕ → Cut
bad_token n = Err (BadToken n)

abbrev pub number_range : ℕ → Cut
number_range n = Err (NumberRange n)

abbrev pub behind : List Token → Cut → Cut
behind ts (Ok us) = Ok (ts ++ us)
behind ts (Err e) = Err e

-- what was cut, and what is still cut, is the whole
pub record Keeps (t : List ℕ) (ts : List Token) (at : ℕ) : Type 0 where
  pub within : at ≤ length t
  pub fuel : ℕ
  pub enough : length (drop at t) ≤ fuel
  pub same : behind ts (tokens_up_to fuel at (drop at t)) ≡ tokens t

behind_none : (r : Cut) → behind [] r ≡ r
behind_none (Ok us) = refl
behind_none (Err e) = refl

pub begins : (t : List ℕ) → Keeps t [] 0
unfolding tokens
begins t = record { within = omega arith; fuel = length t; enough = omega arith; same = behind_none (tokens_up_to (length t) 0 t) }

-- the same, where a byte is left
pub record Now (t : List ℕ) (ts : List Token) (at : ℕ) : Type 0 where
  pub fuel : ℕ
  pub enough : length (drop (at + 1) t) ≤ fuel
  pub same : behind ts (tokens_by (tokens_up_to fuel) at (drop at t) (lexeme_at (get_or t at 0) (drop (at + 1) t))) ≡ tokens t

now_by : (t : List ℕ) (ts : List Token) (at c : ℕ) (b : List ℕ) (fuel : ℕ) → suc (length b) ≤ fuel → drop at t ≡ c ∷ b → get_or t at 0 ≡ c → drop (at + 1) t ≡ b → behind ts (tokens_up_to fuel at (c ∷ b)) ≡ tokens t → Now t ts at
now_by t ts at c b zero le whole first rest same = absurd (omega arith)
now_by t ts at c b (suc fuel) le whole first rest same = record { fuel = fuel; enough = rw rest (omega arith); same = rw (whole, first, rest) same }

pub now : (t : List ℕ) (ts : List Token) (at : ℕ) → Keeps t ts at → at < length t → Now t ts at
now t ts at k lt =
    let whole : drop at t ≡ get_or t at 0 ∷ drop (at + 1) t = cons_at t at lt in
    let long : suc (length (drop (at + 1) t)) ≤ k.fuel = rw (← ap length whole) k.enough in
    now_by t ts at (get_or t at 0) (drop (at + 1) t) k.fuel long whole refl refl (ap (λ (r : List ℕ). behind ts (tokens_up_to k.fuel at r)) (sym whole) ∙ k.same)

pub is_wrong : (t : List ℕ) (ts : List Token) (at : ℕ) → Keeps t ts at → at < length t → lex.Wrong ≡ lexeme_at (get_or t at 0) (drop (at + 1) t) → tokens t ≡ Err (BadToken (place at))
is_wrong t ts at k lt h =
    let n = now t ts at k lt in
    sym n.same ∙ ap (λ (x : Lexeme). behind ts (tokens_by (tokens_up_to n.fuel) at (drop at t) x)) (sym h)

pub goes_past : (t : List ℕ) (ts : List Token) (at : ℕ) → Keeps t ts at → at < length t → lex.Blank ≡ lexeme_at (get_or t at 0) (drop (at + 1) t) → Keeps t ts (at + 1)
goes_past t ts at k lt h =
    let n = now t ts at k lt in
    record {
      within = omega arith;
      fuel = n.fuel;
      enough = n.enough;
      same = ap (λ (r : List ℕ). behind ts (tokens_up_to n.fuel (at + 1) r)) (sym (drop-drop 1 at t))
          ∙ sym (ap (λ (x : Lexeme). behind ts (tokens_by (tokens_up_to n.fuel) at (drop at t) x)) (sym h)) ∙ n.same;
    }

no_test_by : (b : List ℕ) (x : Bool) → is_utf8 b ≡ x → ¬ IsUtf8 b → is_utf8 b ≡ false
no_test_by b true e h = absurd (h (IsUtf8-from_is_utf8 b e))
no_test_by b false e h = e

no_test : (b : List ℕ) → ¬ IsUtf8 b → is_utf8 b ≡ false
no_test b h = no_test_by b (is_utf8 b) refl h

token_at : (t : List ℕ) (ts : List Token) (at : ℕ) (k : TokenKind) (n fuel : ℕ) → lex.Token k n ≡ lexeme_at (get_or t at 0) (drop (at + 1) t)
    → behind ts (tokens_by (tokens_up_to fuel) at (drop at t) (lexeme_at (get_or t at 0) (drop (at + 1) t))) ≡ tokens t → tokens t ≡ behind ts (token_by (tokens_up_to fuel) at (drop at t) k n)
token_at t ts at k n fuel h same = sym same ∙ ap (λ (x : Lexeme). behind ts (tokens_by (tokens_up_to fuel) at (drop at t) x)) (sym h)

pub is_no_text : (t : List ℕ) (ts : List Token) (at : ℕ) (k : TokenKind) (n : ℕ) → Keeps t ts at → at < length t → lex.Token k n ≡ lexeme_at (get_or t at 0) (drop (at + 1) t)
    → ¬ IsUtf8 (take n (drop at t)) → tokens t ≡ Err (BadToken (place at))
is_no_text t ts at k n keeps lt h u = let w = now t ts at keeps lt in token_at t ts at k n w.fuel h w.same ∙ rw (no_test (take n (drop at t)) u) refl

pub is_too_large : (t : List ℕ) (ts : List Token) (at : ℕ) (k : TokenKind) (n : ℕ) → Keeps t ts at → at < length t → lex.Token k n ≡ lexeme_at (get_or t at 0) (drop (at + 1) t)
    → IsUtf8 (take n (drop at t)) → is_large k (take n (drop at t)) ≡ true → tokens t ≡ Err (NumberRange (place at))
is_too_large t ts at k n keeps lt h u g = let w = now t ts at keeps lt in token_at t ts at k n w.fuel h w.same ∙ rw (is_utf8-from_IsUtf8 (take n (drop at t)) u, g) refl

regroup : (ts : List Token) (x : Token) (r : Cut) → behind ts (pushed_token x r) ≡ behind (ts ++ x ∷ []) r
regroup ts x (Ok us) = ap Ok (simp append_assoc)
regroup ts x (Err e) = refl

pub takes_one : (t : List ℕ) (ts : List Token) (at : ℕ) (k : TokenKind) (n : ℕ) → Keeps t ts at → at < length t → lex.Token k n ≡ lexeme_at (get_or t at 0) (drop (at + 1) t)
    → IsUtf8 (take n (drop at t)) → is_large k (take n (drop at t)) ≡ false → 0 < n → at + n ≤ length t
    → Keeps t (ts ++ (record { kind = k; text = take n (drop at t); from = at; to = at + n }) ∷ []) (at + n)
takes_one t ts at k n keeps lt h u g some le =
    let w = now t ts at keeps lt in
    let x : Token = record { kind = k; text = take n (drop at t); from = at; to = at + n } in
    let one : behind ts (token_by (tokens_up_to w.fuel) at (drop at t) k n) ≡ behind (ts ++ x ∷ []) (tokens_up_to w.fuel (at + n) (drop n (drop at t))) = rw (is_utf8-from_IsUtf8 (take n (drop at t)) u, g) (regroup ts x (tokens_up_to w.fuel (at + n) (drop n (drop at t)))) in
    let short : length (drop (at + n) t) ≡ length t - (at + n) = length-drop (at + n) t in
    let long : length (drop (at + 1) t) ≡ length t - (at + 1) = length-drop (at + 1) t in
    record {
      within = le;
      fuel = w.fuel;
      enough = omega (arith, w.enough);
      same = ap (λ (r : List ℕ). behind (ts ++ x ∷ []) (tokens_up_to w.fuel (at + n) r)) (sym (drop-drop n at t)) ∙ sym one ∙ sym (token_at t ts at k n w.fuel h w.same);
    }

pub is_done : (t : List ℕ) (ts : List Token) (at : ℕ) → Keeps t ts at → length t ≤ at → tokens t ≡ Ok ts
is_done t ts at k le =
    let none : drop at t ≡ [] = drop_all at t le in
    sym k.same ∙ ap (λ (r : List ℕ). behind ts (tokens_up_to k.fuel at r)) none ∙ done_by ts k.fuel at
  where
    done_by : (ts : List Token) (fuel at : ℕ) → behind ts (tokens_up_to fuel at []) ≡ Ok ts
    done_by ts fuel at = ap Ok (append-nil ts)

-- ---- slices as the code takes them

pub to_end : (b : List ℕ) (i : ℕ) → take (length b - i) (drop i b) ≡ drop i b
to_end b i = let long : length (drop i b) ≡ length b - i = length-drop i b in take_all (length b - i) (drop i b) (omega (arith, long))

pub so_many : (b : List ℕ) (at n : ℕ) → take (at + n - at) (drop at b) ≡ take n (drop at b)
so_many b at n = let e : at + n - at ≡ n = omega arith in ap (λ (k : ℕ). take k (drop at b)) e

pub fits_in : (b : List ℕ) (at n : ℕ) → at < length b → n ≤ 1 + length (take (length b - (at + 1)) (drop (at + 1) b)) → at + n ≤ length b
fits_in b at n lt le =
    let same : length (take (length b - (at + 1)) (drop (at + 1) b)) ≡ length (drop (at + 1) b) = ap length (to_end b (at + 1)) in
    let long : length (drop (at + 1) b) ≡ length b - (at + 1) = length-drop (at + 1) b in
    omega (arith, lt, le, same, long)
