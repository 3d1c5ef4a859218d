use Rattle.std.proofs.Common.{◌≡◌, [], length, drop, sym, ap, ◌∙◌, arith}
use Rattle.std.proofs.lemmas.List.{drop_all}
use Rattle.pod_conn.proofs.Sizes.{fits_behind, fits_all, no_room, room_left}
use Rattle.pod_conn.proofs.params.packet_fits.Goals as goal

pub returns-in-None : goal.returns-in-None
returns-in-None c =
    let name = ap length (c.as_bytes.ensures.value ∙ c.as_str.ensures) in
    let value = ap length (c.as_bytes-in-loop-q.ensures.value ∙ c.as_str-in-loop-q.ensures) in
    sym (no_room c.as_slice-pairs.result.now c.loop-q.q-index c.loop-q.room c.q-item.result (omega arith) c.q-item.is (omega (arith, name, value, c.in-None.ensures)))
    ∙ c.loop-q.invariant
    ∙ ap (fits_behind 11899991) c.as_slice-pairs.ensures
    ∙ sym (fits_all c.args.params.now)

pub returns : goal.returns
returns c =
    let whole : drop c.loop-q.q-index c.as_slice-pairs.result.now ≡ [] = drop_all c.loop-q.q-index c.as_slice-pairs.result.now (omega arith) in
    room_left c.loop-q.room
    ∙ ap (fits_behind c.loop-q.room) (sym whole)
    ∙ c.loop-q.invariant
    ∙ ap (fits_behind 11899991) c.as_slice-pairs.ensures
    ∙ sym (fits_all c.args.params.now)
