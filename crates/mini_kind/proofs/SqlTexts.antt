-- The texts of a transfer are read as what they were written from.
use Rattle.std.proofs.Common.{Bool, List, Ok, Option, Result, Some, [], ap, append_assoc, arith, drop, false, length, refl, suc, sym, take, true, ℕ, ◌%◌, ◌++◌, ◌+◌, ◌-◌, ◌/◌, ◌<◌, ◌∙◌, ◌∷◌, ◌≡◌}
use Rattle.std.proofs.lemmas.Bool.{and_parts}
use Rattle.std.proofs.lemmas.List.{drop_all, drop_at, length-append, take_all, take_at}
use Rattle.std.proofs.lemmas.Nat.{be_bytes_8}
use Rattle.std.specs.Int.{from_be_bytes, to_be_bytes, w64}
use Rattle.std.specs.List.{list_all, list_any}
use Rattle.std.specs.Prelude.{codes, nat_lt, not, slice_index, ◌&&◌, ◌==◌}
use Rattle.std.specs.Result.{result_ok}
use Rattle.base64.specs.Engines.{standard}
use Rattle.base64.specs.GeneralPurpose.{encode_of}
use Rattle.hex.proofs.HexLemmas.{decode_sized-encode_lower}
use Rattle.hex.specs.Hex.{decode_sized, encode_lower, encode_with, lower_digits}
use Rattle.pgw_frames.specs.Frames.{IsBytes}
use Rattle.session_model.specs.Texts.{key_bytes, key_digits, restore_text, transfer_text}
use Rattle.session_model.specs.declared.transfer.TransferKey.{TransferKey}
use Rattle.sql_text.specs.Grammar.{◌>>=◌, Cursor, finish_form, says_by, statement_form, statement_of, whole_form}
use Rattle.sql_text.specs.Numbers.{begins}
use Rattle.sql_text.specs.Tokens.{is_large, lex_quoted, lexeme_at, pushed_token, quoted_len, token_by, tokens, tokens_by, tokens_up_to}
use Rattle.sql_text.specs.Values.{Key, digits_key, is_quote, is_upper, key_by, key_of, unquoted, unquoted_by}
use Rattle.sql_text.specs.declared.fault.SqlFault.{SqlFault}
use Rattle.sql_text.specs.declared.stmt.Stmt.{Stmt}
use Rattle.sql_text.specs.declared.stmt.Stmt.TheVariants as sql
use Rattle.sql_text.specs.declared.token.Token.{Token}
use Rattle.sql_text.specs.declared.token.TokenKind.{TokenKind}
use Rattle.sql_text.specs.declared.token.TokenKind.TheVariants as kind
use Rattle.mini_kind.proofs.Bytes.{AllBytes, bytes_from_all}
use Rattle.mini_kind.proofs.Clear.{all_from_bytes, base64_clear, below, digits_clear, is_clear, is_plain, key_all_bytes, list_all-append, plain_from_clear, plain_text}
use Rattle.mini_kind.specs.Parameters.{stmt_in}

-- ---- what stands between quotes

no_quote : (c : ℕ) → is_clear c ≡ true → (c == 39) ≡ false
no_quote c h = by (c == 39) (and_parts (nat_lt c 128) (not (c == 39)) (and_parts (nat_lt 0 c) (nat_lt c 128 && not (c == 39)) h).1).1
  where
    by : (b : Bool) → not b ≡ true → b ≡ false
    by true e = absurd cc
    by false e = refl

quoted_clear : (e r : List ℕ) → list_all is_clear e ≡ true → begins is_quote r ≡ false → quoted_len (e ++ 39 ∷ r) ≡ Some (length e + 1)
quoted_clear [] [] h q = refl
quoted_clear [] (d ∷ r) h q = rw q refl
quoted_clear (c ∷ []) r h q =
    let n = no_quote c (and_parts (is_clear c) true h).0 in
    let more = quoted_clear [] r refl q in
    rw (n, more) refl
quoted_clear (c ∷ d ∷ e) r h q =
    let p = and_parts (is_clear c) (list_all is_clear (d ∷ e)) h in
    let n = no_quote c p.0 in
    let more = quoted_clear (d ∷ e) r p.1 q in
    let sum : 1 + (length (d ∷ e) + 1) ≡ length (c ∷ d ∷ e) + 1 = omega arith in
    rw (n, more) (ap Some sum)

unquoted_clear : (e : List ℕ) → list_all is_clear e ≡ true → unquoted_by false (e ++ 39 ∷ []) ≡ e
unquoted_clear [] h = refl
unquoted_clear (c ∷ e) h =
    let p = and_parts (is_clear c) (list_all is_clear e) h in
    let n = no_quote c p.0 in
    let more = unquoted_clear e p.1 in
    rw n (ap (λ (x : List ℕ). c ∷ x) more)

-- ---- one token

abbrev More : Type 0
More = ℕ → List ℕ → Result (List Token) SqlFault

next_token : (fuel at c : ℕ) (b front back : List ℕ) (k : TokenKind) (n : ℕ) → ((more : More) → tokens_by more at (c ∷ b) (lexeme_at c b) ≡ token_by more at (c ∷ b) k n) → take n (c ∷ b) ≡ front → drop n (c ∷ b) ≡ back → list_all is_plain front ≡ true → is_large k front ≡ false
    → tokens_up_to (suc fuel) at (c ∷ b) ≡ pushed_token (record { kind = k; text = front; from = at; to = at + n }) (tokens_up_to fuel (at + n) back)
next_token fuel at c b front back k n is taken left plain small =
    let utf8 = (plain_text front plain).utf8 in
    is (tokens_up_to fuel) ∙ rw (taken, left, utf8, small) refl

-- ---- the key

no_upper : (b : List ℕ) → AllBytes b → list_any is_upper (encode_lower b) ≡ false
unfolding encode_with
no_upper [] h = refl
no_upper (x ∷ b) h =
    let high = lower (x / 16) (omega (arith, h.0)) in
    let low = lower (x % 16) (omega arith) in
    let more = no_upper b h.1 in
    rw (high, low, more) refl
  where
    is_no_upper : ℕ → Bool
    is_no_upper c = not (is_upper c)

    not_true : (y : Bool) → not y ≡ true → y ≡ false
    not_true true e = absurd cc
    not_true false e = refl

    lower : (n : ℕ) → n < 16 → is_upper (slice_index lower_digits n) ≡ false
    lower n lt = not_true (is_upper (slice_index lower_digits n)) (below is_no_upper lower_digits 16 n refl lt)

-- the key that is read of another's digits
abbrev key_again : TransferKey → TransferKey
key_again k = record { high = from_be_bytes w64 (to_be_bytes w64 k.high); low = from_be_bytes w64 (to_be_bytes w64 k.low) }

same_digits : (k : TransferKey) → key_digits (key_again k) ≡ key_digits k
same_digits k =
    let high : List ℕ = to_be_bytes w64 k.high in
    let low : List ℕ = to_be_bytes w64 k.low in
    let a : to_be_bytes w64 (from_be_bytes w64 high) ≡ high = be_bytes_8 high _ refl (bytes_from_all high (word_bytes k.high)) refl in
    let b : to_be_bytes w64 (from_be_bytes w64 low) ≡ low = be_bytes_8 low _ refl (bytes_from_all low (word_bytes k.low)) refl in
    ap (λ (x : List ℕ). encode_lower (x ++ to_be_bytes w64 (from_be_bytes w64 low))) a ∙ ap (λ (x : List ℕ). encode_lower (high ++ x)) b
  where
    word_bytes : (n : ℕ) → AllBytes (to_be_bytes w64 n)
    word_bytes n = (omega arith, (omega arith, (omega arith, (omega arith, (omega arith, (omega arith, (omega arith, (omega arith, tt))))))))

abbrev key_in : TransferKey → Key
key_in k = (k.high, k.low)

abbrev some_key : Key → Option Key
some_key k = Some k

digits_read : (k : TransferKey) → digits_key (key_digits k) ≡ Some (key_in (key_again k))
digits_read k =
    let bytes : List ℕ = key_bytes k in
    let high : List ℕ = to_be_bytes w64 k.high in
    let low : List ℕ = to_be_bytes w64 k.low in
    let none = no_upper bytes (key_all_bytes k) in
    let step : digits_key (key_digits k) ≡ key_by (decode_sized (key_digits k) 16) = rw none refl in
    let read = decode_sized-encode_lower bytes 16 refl (bytes_from_all bytes (key_all_bytes k)) in
    let front : take 8 bytes ≡ high = take_at high low 8 refl in
    let back : drop 8 bytes ≡ low = drop_at high low 8 refl in
    step ∙ ap key_by read ∙ ap (λ (x : List ℕ). some_key (from_be_bytes w64 x, from_be_bytes w64 (drop 8 bytes))) front ∙ ap (λ (x : List ℕ). some_key (from_be_bytes w64 high, from_be_bytes w64 x)) back

key_read : (k : TransferKey) → key_of (39 ∷ (key_digits k ++ 39 ∷ [])) ≡ Some (key_in (key_again k))
key_read k =
    let d : List ℕ = key_digits k in
    let t : List ℕ = 39 ∷ (d ++ 39 ∷ []) in
    let n : length d ≡ length t - 1 - 1 = omega (arith, length-append d (39 ∷ [])) in
    let cut : take (length t - 1 - 1) (d ++ 39 ∷ []) ≡ d = take_at d (39 ∷ []) (length t - 1 - 1) n in
    let step : key_of t ≡ digits_key (take (length t - 1 - 1) (d ++ 39 ∷ [])) = refl in
    step ∙ ap digits_key cut ∙ digits_read k

-- ---- the transfer text

abbrev word : List ℕ → ℕ → ℕ → Token
word t a b = record { kind = kind.Word; text = t; from = a; to = b }

abbrev mark : List ℕ → ℕ → ℕ → Token
mark t a b = record { kind = kind.Mark; text = t; from = a; to = b }

abbrev quoted : List ℕ → ℕ → ℕ → Token
quoted t a b = record { kind = kind.Quoted; text = t; from = a; to = b }

abbrev finished : Result (Stmt × Cursor) SqlFault → Result Stmt SqlFault
finished r = r >>= λ s. finish_form s.1 >>= λ nothing. Ok s.0

transfer_by_key : (end to : ℕ) (t : List ℕ) (key : Key) → key_of t ≡ Some key
    → whole_form (record { rest = word (codes "SHOW") 0 4 ∷ word (codes "TRANSFER") 5 13 ∷ word (codes "STATE") 14 19 ∷ word (codes "WITH") 20 24 ∷ quoted t 25 to ∷ []; end = end }) ≡ Ok (sql.Transfer key.0 key.1)
unfolding statement_form
transfer_by_key end to t key e =
    let c : Cursor = record { rest = quoted t 25 to ∷ []; end = end } in
    ap (λ (o : Option Key). finished (says_by o c >>= λ k. Ok (sql.Transfer k.0.0 k.0.1, k.1))) e

pub transfer_read : (k : TransferKey) → stmt_in (transfer_text k) ≡ Some (sql.Transfer (key_again k).high (key_again k).low)
unfolding statement_of tokens
transfer_read k =
    let d : List ℕ = key_digits k in
    let b : List ℕ = d ++ 39 ∷ [] in
    let q : List ℕ = 39 ∷ b in
    let end : ℕ = length (transfer_text k) in
    let fuel : ℕ = suc (suc (suc (suc (suc (suc (suc (suc (suc (suc (suc (suc (suc (suc (suc (suc (suc (length b))))))))))))))))) in
    let clear = digits_clear k in
    let n : ℕ = 1 + (length d + 1) in
    let len : length b ≡ length d + 1 = length-append d (39 ∷ []) in
    let shape : (at : ℕ) (more : More) → tokens_by more at q (lexeme_at 39 b) ≡ token_by more at q kind.Quoted n = λ at more. ap (λ (x : Option ℕ). tokens_by more at q (lex_quoted x)) (quoted_clear d [] clear refl) in
    let plain : list_all is_plain q ≡ true = list_all-append is_plain (39 ∷ d) (39 ∷ []) (plain_from_clear d clear) refl in
    let last : tokens_up_to (suc fuel) 25 q ≡ Ok (quoted q 25 (25 + n) ∷ []) = next_token fuel 25 39 b q [] kind.Quoted n (shape 25) (take_all n q (omega arith)) (drop_all n q (omega arith)) plain refl in
    let with_ = next_token (suc (suc fuel)) 20 87 (codes "ITH " ++ q) (codes "WITH") (32 ∷ q) kind.Word 4 (λ m. refl) refl refl refl refl in
    let state = next_token (suc (suc (suc (suc fuel)))) 14 83 (codes "TATE WITH " ++ q) (codes "STATE") (codes " WITH " ++ q) kind.Word 5 (λ m. refl) refl refl refl refl in
    let transfer = next_token (suc (suc (suc (suc (suc (suc fuel)))))) 5 84 (codes "RANSFER STATE WITH " ++ q) (codes "TRANSFER") (codes " STATE WITH " ++ q) kind.Word 8 (λ m. refl) refl refl refl refl in
    let show = next_token (suc (suc (suc (suc (suc (suc (suc (suc fuel)))))))) 0 83 (codes "HOW TRANSFER STATE WITH " ++ q) (codes "SHOW") (codes " TRANSFER STATE WITH " ++ q) kind.Word 4 (λ m. refl) refl refl refl refl in
    let all : tokens (transfer_text k) ≡ Ok (word (codes "SHOW") 0 4 ∷ word (codes "TRANSFER") 5 13 ∷ word (codes "STATE") 14 19 ∷ word (codes "WITH") 20 24 ∷ quoted q 25 (25 + n) ∷ []) =
    show ∙ ap (pushed_token (word (codes "SHOW") 0 4)) (transfer ∙ ap (pushed_token (word (codes "TRANSFER") 5 13)) (state ∙ ap (pushed_token (word (codes "STATE") 14 19)) (with_ ∙ ap (pushed_token (word (codes "WITH") 20 24)) last))) in
    let whole = ap (λ (r : Result (List Token) SqlFault). r >>= λ ts. whole_form (record { rest = ts; end = end })) all in
    ap result_ok (whole ∙ transfer_by_key end (25 + n) q (key_in (key_again k)) (key_read k))

pub transfer_reads : (k : TransferKey) → (t : TransferKey) × (stmt_in (transfer_text k) ≡ Some (sql.Transfer t.high t.low)) × (key_digits t ≡ key_digits k)
transfer_reads k = (key_again k, transfer_read k, same_digits k)

-- ---- the restore text

-- the tokens behind the quoted text, which begins at 48 and has n bytes
abbrev behind : ℕ → List Token
behind at = mark (codes ",") at (at + 1) ∷ quoted (codes "'base64'") (at + 1) (at + 1 + 8) ∷ mark (codes ")") (at + 1 + 8) (at + 1 + 8 + 1) ∷ mark (codes ")") (at + 1 + 8 + 1) (at + 1 + 8 + 1 + 1) ∷ []

abbrev before : List Token → List Token
before ts = word (codes "SELECT") 0 6 ∷ word (codes "crdb_internal") 7 20 ∷ mark (codes ".") 20 21 ∷ word (codes "deserialize_session") 21 40 ∷ mark (codes "(") 40 41 ∷ word (codes "decode") 41 47 ∷ mark (codes "(") 47 48 ∷ ts

behind_read : (fuel at : ℕ) → tokens_up_to (suc (suc (suc (suc fuel)))) at (codes ",'base64'))") ≡ Ok (behind at)
behind_read fuel at =
    let close = next_token fuel (at + 1 + 8 + 1) 41 [] (codes ")") [] kind.Mark 1 (λ m. refl) refl refl refl refl in
    let first = next_token (suc fuel) (at + 1 + 8) 41 (codes ")") (codes ")") (codes ")") kind.Mark 1 (λ m. refl) refl refl refl refl in
    let text = next_token (suc (suc fuel)) (at + 1) 39 (codes "base64'))") (codes "'base64'") (codes "))") kind.Quoted 8 (λ m. refl) refl refl refl refl in
    let comma = next_token (suc (suc (suc fuel))) at 44 (codes "'base64'))") (codes ",") (codes "'base64'))") kind.Mark 1 (λ m. refl) refl refl refl refl in
    comma ∙ ap (pushed_token (mark (codes ",") at (at + 1))) (text ∙ ap (pushed_token (quoted (codes "'base64'") (at + 1) (at + 1 + 8))) (first ∙ ap (pushed_token (mark (codes ")") (at + 1 + 8) (at + 1 + 8 + 1))) close))

restore_by_text : (end at to : ℕ) (t d : List ℕ) → unquoted t ≡ d → whole_form (record { rest = before (quoted t 48 to ∷ behind at); end = end }) ≡ Ok (sql.Restore d)
unfolding statement_form
restore_by_text end at to t d e = ap (λ (x : List ℕ). done (sql.Restore x)) e
  where
    done : Stmt → Result Stmt SqlFault
    done x = Ok x

pub restore_read : (x : List ℕ) → IsBytes x → stmt_in (restore_text x) ≡ Some (sql.Restore (encode_of standard x))
unfolding statement_of tokens
restore_read x bytes =
    let d : List ℕ = encode_of standard x in
    let r : List ℕ = codes ",'base64'))" in
    let b : List ℕ = d ++ 39 ∷ r in
    let t : List ℕ = 39 ∷ (d ++ 39 ∷ []) in
    let q : List ℕ = 39 ∷ b in
    let end : ℕ = length (restore_text x) in
    let fuel : ℕ = suc (suc (suc (suc (suc (suc (suc (suc (suc (suc (suc (suc (suc (suc (suc (suc (suc (suc (suc (suc (suc (suc (suc (suc (suc (suc (suc (suc (suc (suc (suc (suc (suc (suc (suc (suc (length b)))))))))))))))))))))))))))))))))))) in
    let more : ℕ = suc (suc (suc (suc fuel))) in
    let clear = base64_clear x (all_from_bytes x bytes) in
    let n : ℕ = 1 + (length d + 1) in
    let len : length (d ++ 39 ∷ []) ≡ length d + 1 = length-append d (39 ∷ []) in
    let shape : (at : ℕ) (more : More) → tokens_by more at q (lexeme_at 39 b) ≡ token_by more at q kind.Quoted n = λ at more. ap (λ (x : Option ℕ). tokens_by more at q (lex_quoted x)) (quoted_clear d r clear refl) in
    let parts : q ≡ t ++ r = ap (λ (y : List ℕ). 39 ∷ y) (sym (append_assoc d (39 ∷ []) r)) in
    let front : take n q ≡ t = ap (take n) parts ∙ take_at t r n (omega arith) in
    let back : drop n q ≡ r = ap (drop n) parts ∙ drop_at t r n (omega arith) in
    let plain : list_all is_plain t ≡ true = list_all-append is_plain (39 ∷ d) (39 ∷ []) (plain_from_clear d clear) refl in
    let text = next_token more 48 39 b t r kind.Quoted n (shape 48) front back plain refl in
    let open_ = next_token (suc more) 47 40 q (codes "(") q kind.Mark 1 (λ m. refl) refl refl refl refl in
    let decode = next_token (suc (suc more)) 41 100 (codes "ecode(" ++ q) (codes "decode") (codes "(" ++ q) kind.Word 6 (λ m. refl) refl refl refl refl in
    let first = next_token (suc (suc (suc more))) 40 40 (codes "decode(" ++ q) (codes "(") (codes "decode(" ++ q) kind.Mark 1 (λ m. refl) refl refl refl refl in
    let restores = next_token (suc (suc (suc (suc more)))) 21 100 (codes "eserialize_session(decode(" ++ q) (codes "deserialize_session") (codes "(decode(" ++ q) kind.Word 19 (λ m. refl) refl refl refl refl in
    let dot = next_token (suc (suc (suc (suc (suc more))))) 20 46 (codes "deserialize_session(decode(" ++ q) (codes ".") (codes "deserialize_session(decode(" ++ q) kind.Mark 1 (λ m. refl) refl refl refl refl in
    let internal = next_token (suc (suc (suc (suc (suc (suc more)))))) 7 99 (codes "rdb_internal.deserialize_session(decode(" ++ q) (codes "crdb_internal") (codes ".deserialize_session(decode(" ++ q) kind.Word 13 (λ m. refl) refl refl refl refl in
    let select = next_token (suc (suc (suc (suc (suc (suc (suc (suc more)))))))) 0 83 (codes "ELECT crdb_internal.deserialize_session(decode(" ++ q) (codes "SELECT") (codes " crdb_internal.deserialize_session(decode(" ++ q) kind.Word 6 (λ m. refl) refl refl refl refl in
    let all : tokens (restore_text x) ≡ Ok (before (quoted t 48 (48 + n) ∷ behind (48 + n))) =
    select ∙ ap (pushed_token (word (codes "SELECT") 0 6)) (internal ∙ ap (pushed_token (word (codes "crdb_internal") 7 20)) (dot ∙ ap (pushed_token (mark (codes ".") 20 21)) (restores ∙ ap (pushed_token (word (codes "deserialize_session") 21 40))
    (first ∙ ap (pushed_token (mark (codes "(") 40 41)) (decode ∙ ap (pushed_token (word (codes "decode") 41 47)) (open_ ∙ ap (pushed_token (mark (codes "(") 47 48)) (text ∙ ap (pushed_token (quoted t 48 (48 + n))) (behind_read fuel (48 + n))))))))) in
    let whole = ap (λ (ts : Result (List Token) SqlFault). ts >>= λ ts. whole_form (record { rest = ts; end = end })) all in
    ap result_ok (whole ∙ restore_by_text end (48 + n) (48 + n) t d (unquoted_clear d clear))
