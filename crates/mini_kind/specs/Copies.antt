-- The end of a copy (PostgreSQL manual, COPY Operations; COPY, Text Format, without escapes).
use Rattle.std.specs.Prelude.{◌==◌, ℕ, ◌&&◌, List, [], ◌∷◌, length, map, Option, Some, None, if◌then◌else◌, codes}
use Rattle.std.specs.Str.{bytes_eq, is_utf8}
use Rattle.pgw_frames.specs.declared.frame.Frame.{Frame}
use Rattle.pgw_messages.specs.Reading.{whole, text_at}
use Rattle.pgw_messages.specs.Tags as tag
use Rattle.mini_store.specs.declared.code.SqlCode.TheVariants as code
use Rattle.mini_store.specs.declared.datum.Given.{Given}
use Rattle.mini_store.specs.declared.datum.Given.TheVariants as given
use Rattle.mini_store.specs.declared.op.Op.TheVariants as op
use Rattle.mini_kind.specs.Extended.{is_unnamed, on_empty, on_read, on_some}
use Rattle.mini_kind.specs.Mini.{Mini, CopyTo}
use Rattle.mini_kind.specs.Operating.{operates, see_count}
use Rattle.mini_kind.specs.Plans.{Plan, Outcome, refuse}
use Rattle.mini_kind.specs.Running.{says_count}

abbrev pub put_first : ℕ → List (List ℕ) → List (List ℕ)
put_first c [] = (c ∷ []) ∷ []
put_first c (p ∷ ps) = (c ∷ p) ∷ ps

-- what stands between the separators
abbrev pub parts : ℕ → List ℕ → List (List ℕ)
parts sep [] = [] ∷ []
parts sep (c ∷ b) = if c == sep then [] ∷ parts sep b else put_first c (parts sep b)

abbrev pub pushed : {A : Type 0} → A → Option (List A) → Option (List A)
pushed x None = None
pushed x (Some xs) = Some (x ∷ xs)

-- each line has its newline, and a last line `\.` counts for nothing
abbrev pub lines_of : List (List ℕ) → Option (List (List ℕ))
lines_of [] = None
lines_of (l ∷ []) = if is_unnamed l then Some [] else None
lines_of (l ∷ m ∷ []) = if is_unnamed m then Some (if bytes_eq l (codes "\\.") then [] else l ∷ []) else None
lines_of (l ∷ m ∷ n ∷ ls) = pushed l (lines_of (m ∷ n ∷ ls))

-- a line's values, parted by one tab each
abbrev pub copied_row : ℕ → List ℕ → Option (List Given)
copied_row width line = if is_utf8 line && (length (parts 9 line) == width) then Some (map given.Bound (parts 9 line)) else None

abbrev pub row_and_more : Option (List Given) → Option (List (List Given)) → Option (List (List Given))
row_and_more None more = None
row_and_more (Some r) more = pushed r more

abbrev pub each_row : ℕ → List (List ℕ) → Option (List (List Given))
each_row width [] = Some []
each_row width (l ∷ ls) = row_and_more (copied_row width l) (each_row width ls)

abbrev pub rows_of : ℕ → Option (List (List ℕ)) → Option (List (List Given))
rows_of width None = None
rows_of width (Some ls) = each_row width ls

abbrev pub copied_rows : ℕ → List ℕ → Option (List (List Given))
copied_rows width b = rows_of width (lines_of (parts 10 b))

abbrev pub copies_in : Mini → CopyTo → Plan Outcome
copies_in s c = on_some s code.BadCopyFileFormat (λ rs. operates s (op.CopyIn c.table rs) see_count (says_count (codes "COPY "))) (copied_rows c.width c.gathered)

-- CopyFail or CopyDone, in the session that the copy leaves
abbrev pub copy_ends : Mini → CopyTo → Frame → Plan Outcome
copy_ends s c f =
    if f.tag == tag.copy_fail then on_read s (λ t. refuse s code.QueryCanceled) (whole (text_at f.body))
    else on_empty s (copies_in s c) f.body
