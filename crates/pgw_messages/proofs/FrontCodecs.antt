-- The bodies of a client's messages, both ways.
use Rattle.std.proofs.Common.{◌≡◌, ℕ, Bool, true, false, List, [], ◌∷◌, ◌++◌, Ok, Err, refl, ap, subst, ◌∙◌, append_assoc}
use Rattle.std.specs.Prelude.{if◌then◌else◌}
use Rattle.std.specs.Int.{w16, w32, to_be_bytes}
use Rattle.pgw_frames.specs.Frames.{IsBytes}
use Rattle.pgw_messages.specs.declared.fault.MsgFault.TheVariants as fault
use Rattle.pgw_messages.specs.declared.frontend.parse.ParseMsg.{ParseMsg}
use Rattle.pgw_messages.specs.declared.frontend.bind.BindMsg.{BindMsg}
use Rattle.pgw_messages.specs.declared.frontend.part.Part.{Part}
use Rattle.pgw_messages.specs.declared.frontend.execute.ExecuteMsg.{ExecuteMsg}
use Rattle.pgw_messages.specs.Reading.{Read, mapped, text_at}
use Rattle.pgw_messages.specs.Spelling.{text_bytes, value_bytes, list_bytes, IsText}
use Rattle.pgw_messages.specs.Frontend.{parse_at, parse_bytes, IsParse, bind_at, bind_bytes, IsBind, is_part, part_at, part_bytes, IsPart, execute_at, execute_bytes, IsExecute}
use Rattle.pgw_messages.proofs.Codecs.{Codec, Takes, Takes-then, step, again_then, carried, ok_is, byte, text, number32, types, formats, values}

parse_takes : (b : List ℕ) (m : ParseMsg) (rest : List ℕ) → IsBytes b → parse_at b ≡ Ok (m, rest) → Takes b (parse_bytes m) rest × IsParse m
parse_takes b m rest fits e =
    let read_name = step text b _ (m, rest) fits e in
    let read_query = step text read_name.rest _ (m, rest) read_name.takes.rest_fits read_name.next in
    let read_types = step types read_query.rest _ (m, rest) read_query.takes.rest_fits read_query.next in
    let made : ParseMsg = record { name = read_name.value; query = read_query.value; types = read_types.value } in
    carried (λ (y : ParseMsg × List ℕ). Takes b (parse_bytes y.0) y.1 × IsParse y.0) (made, read_types.rest) (m, rest) read_types.next (Takes-then (Takes-then read_name.takes read_query.takes) read_types.takes, record { name = read_name.is; query = read_query.is; types = read_types.is })

parse_again : (m : ParseMsg) (rest : List ℕ) → IsParse m → parse_at (parse_bytes m ++ rest) ≡ Ok (m, rest)
parse_again m rest is =
    let from_types : List ℕ = list_bytes (to_be_bytes w32) m.types ++ rest in
    let from_query : List ℕ = text_bytes m.query ++ from_types in
    let regrouped : parse_bytes m ++ rest ≡ text_bytes m.name ++ from_query = simp append_assoc in
    ap parse_at regrouped
    ∙ again_then text m.name from_query _ is.name
    ∙ again_then text m.query from_types _ is.query
    ∙ again_then types m.types rest _ is.types

pub parse : Codec parse_at parse_bytes IsParse
parse = record { takes = parse_takes; again = parse_again }

bind_takes : (b : List ℕ) (m : BindMsg) (rest : List ℕ) → IsBytes b → bind_at b ≡ Ok (m, rest) → Takes b (bind_bytes m) rest × IsBind m
bind_takes b m rest fits e =
    let read_portal = step text b _ (m, rest) fits e in
    let read_statement = step text read_portal.rest _ (m, rest) read_portal.takes.rest_fits read_portal.next in
    let read_formats = step formats read_statement.rest _ (m, rest) read_statement.takes.rest_fits read_statement.next in
    let read_values = step values read_formats.rest _ (m, rest) read_formats.takes.rest_fits read_formats.next in
    let read_results = step formats read_values.rest _ (m, rest) read_values.takes.rest_fits read_values.next in
    let made : BindMsg = record { portal = read_portal.value; statement = read_statement.value; formats = read_formats.value; values = read_values.value; results = read_results.value } in
    carried (λ (y : BindMsg × List ℕ). Takes b (bind_bytes y.0) y.1 × IsBind y.0) (made, read_results.rest) (m, rest) read_results.next (Takes-then (Takes-then (Takes-then (Takes-then read_portal.takes read_statement.takes) read_formats.takes) read_values.takes) read_results.takes, record { portal = read_portal.is; statement = read_statement.is; formats = read_formats.is; values = read_values.is; results = read_results.is })

bind_again : (m : BindMsg) (rest : List ℕ) → IsBind m → bind_at (bind_bytes m ++ rest) ≡ Ok (m, rest)
bind_again m rest is =
    let from_results : List ℕ = list_bytes (to_be_bytes w16) m.results ++ rest in
    let from_values : List ℕ = list_bytes value_bytes m.values ++ from_results in
    let from_formats : List ℕ = list_bytes (to_be_bytes w16) m.formats ++ from_values in
    let from_statement : List ℕ = text_bytes m.statement ++ from_formats in
    let regrouped : bind_bytes m ++ rest ≡ text_bytes m.portal ++ from_statement = simp append_assoc in
    ap bind_at regrouped
    ∙ again_then text m.portal from_statement _ is.portal
    ∙ again_then text m.statement from_formats _ is.statement
    ∙ again_then formats m.formats from_values _ is.formats
    ∙ again_then values m.values from_results _ is.values
    ∙ again_then formats m.results rest _ is.results

pub bind : Codec bind_at bind_bytes IsBind
bind = record { takes = bind_takes; again = bind_again }

execute_takes : (b : List ℕ) (m : ExecuteMsg) (rest : List ℕ) → IsBytes b → execute_at b ≡ Ok (m, rest) → Takes b (execute_bytes m) rest × IsExecute m
execute_takes b m rest fits e =
    let read_portal = step text b _ (m, rest) fits e in
    let read_most = step number32 read_portal.rest _ (m, rest) read_portal.takes.rest_fits read_portal.next in
    let made : ExecuteMsg = record { portal = read_portal.value; most = read_most.value } in
    carried (λ (y : ExecuteMsg × List ℕ). Takes b (execute_bytes y.0) y.1 × IsExecute y.0) (made, read_most.rest) (m, rest) read_most.next (Takes-then read_portal.takes read_most.takes, record { portal = read_portal.is; most = read_most.is })

execute_again : (m : ExecuteMsg) (rest : List ℕ) → IsExecute m → execute_at (execute_bytes m ++ rest) ≡ Ok (m, rest)
execute_again m rest is =
    let from_most : List ℕ = to_be_bytes w32 m.most ++ rest in
    let regrouped : execute_bytes m ++ rest ≡ text_bytes m.portal ++ from_most = simp append_assoc in
    ap execute_at regrouped
    ∙ again_then text m.portal from_most _ is.portal
    ∙ again_then number32 m.most rest _ is.most

pub execute : Codec execute_at execute_bytes IsExecute
execute = record { takes = execute_takes; again = execute_again }

-- ---- statements and portals

abbrev ok_part : Part × List ℕ → Read Part
ok_part x = Ok x

part_by : (kind : ℕ) (b : List ℕ) (is : Bool) (m : Part) (rest : List ℕ) → IsBytes b → (if is then mapped (λ name. record { kind = kind; name = name }) (text_at b) else Err fault.BadValue) ≡ ok_part (m, rest)
    → (is ≡ true) × Takes b (text_bytes m.name) rest × IsText m.name × (kind ≡ m.kind)
part_by kind b false m rest fits e = absurd cc
part_by kind b true m rest fits e =
    let name = step text b (λ t. ok_part (record { kind = kind; name = t.0 }, t.1)) (m, rest) fits e in
    let made : Part = record { kind = kind; name = name.value } in
    subst (λ (y : Part × List ℕ). (true ≡ true) × Takes b (text_bytes y.0.name) y.1 × IsText y.0.name × (kind ≡ y.0.kind)) (ok_is (made, name.rest) (m, rest) name.next) (refl, name.takes, name.is, refl)

part_takes : (b : List ℕ) (m : Part) (rest : List ℕ) → IsBytes b → part_at b ≡ ok_part (m, rest) → Takes b (part_bytes m) rest × IsPart m
part_takes b m rest fits e =
    let kind = step byte b _ (m, rest) fits e in
    let name = part_by kind.value kind.rest (is_part kind.value) m rest kind.takes.rest_fits kind.next in
    let both : Takes b (kind.value ∷ [] ++ text_bytes m.name) rest = Takes-then kind.takes name.1 in
    (subst (λ (k : ℕ). Takes b (k ∷ [] ++ text_bytes m.name) rest) name.3 both, record { kind = subst (λ (k : ℕ). is_part k ≡ true) name.3 name.0; name = name.2 })

part_again : (m : Part) (rest : List ℕ) → IsPart m → part_at (part_bytes m ++ rest) ≡ ok_part (m, rest)
part_again m rest is = rw (is.kind, text.again m.name rest is.name) refl

pub part : Codec part_at part_bytes IsPart
part = record { takes = part_takes; again = part_again }
