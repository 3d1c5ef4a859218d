use Rattle.std.proofs.Common.{◌≡◌, true, false, sym, ap, ◌∙◌, true≢false}
use Rattle.std.specs.List.{list_any}
use Rattle.std.specs.Net.Addr.{ipv6_bits}
use Rattle.access_lists.specs.Addresses.{is_dot}
use Rattle.access_lists.proofs.ColonHex.{undotted, in_std, of_std}
use Rattle.access_lists.proofs.address_text.read_v6.Goals as goal

pub returns-then-has_dot : goal.returns-then-has_dot
returns-then-has_dot c = λ bits h.
    let seen : true ≡ list_any is_dot c.args.t.now = c.if-has_dot.ensures ∙ ap (list_any is_dot) c.as_bytes.ensures.value in
    true≢false (seen ∙ undotted c.args.t.now h.0 h.1)

pub returns-in-Ok : goal.returns-in-Ok
unfolding ipv6_bits
returns-in-Ok c =
    let none : list_any is_dot c.args.t.now ≡ false = sym (c.if-has_dot.ensures ∙ ap (list_any is_dot) c.as_bytes.ensures.value) in
    (c.in-Ok.ip.segments, of_std c.args.t.now c.in-Ok.ip.segments none c.in-Ok.ensures.value, c.to_bits.ensures)

pub returns-in-Err : goal.returns-in-Err
returns-in-Err c = λ bits h. c.in-Err.ensures.value (record { segments = h.0 }) (in_std c.args.t.now h.0 h.1)
