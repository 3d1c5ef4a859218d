use Rattle.std.proofs.Common.{◌≡◌, ◌∙◌, ◌-◌, List, ℕ, true, Some, length, refl, sym, ap, arith}
use Rattle.std.specs.Prelude.{nat_lt}
use Rattle.std.proofs.lemmas.List.{length-append, drop-append-le}
use Rattle.pgw_frames.specs.Frames.{render}
use Rattle.forwarder_core.proofs.Reading.{reads_more}
use Rattle.forwarder_core.proofs.Linking.{begun_is}
use Rattle.forwarder_core.proofs.link.Link.begin.Goals as goal

pub returns : goal.returns
returns g c m held h =
    let k = g.S.Session.kind in
    let p = c.args.startup.now in
    let more : List ℕ = render (k.begins p).1 in
    let startup : c.args.self.now.startup ≡ true = let no = c.if-not-self.false in cc in
    let some : nat_lt 0 (length m.startup) ≡ true = sym h.startup ∙ startup in
    let none : length m.startup - m.delivered ≡ 0 = let z = c.if-self-gt0.false in let u = h.unopened in omega arith in
    let greeting = c.in_ok-session.ensures.frames in
    rw (begun_is k g.S.Store.Machine.rules m g.S.Store.Machine.rules.first p some none) (record {
      startup = h.startup;
      unopened = h.unopened;
      pod = h.pod;
      bound = omega (arith, h.bound, length-append m.got more);
      replies = c.in_ok-write_frames.ensures ∙ rw (h.replies, greeting, c.params.ensures.value) (sym (drop-append-le m.back m.got more h.bound));
      reads = reads_more m held more h.bound h.reads;
      session = ap Some (c.in_ok-session.ensures.state ∙ rw c.params.ensures.value refl);
      cut = h.cut;
    })
