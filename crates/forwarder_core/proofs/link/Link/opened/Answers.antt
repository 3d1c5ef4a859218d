use Rattle.std.proofs.Common.{◌∙◌, refl, sym, ap, [], Some, length, arith}
use Rattle.std.proofs.Math.Nat.{sub_self}
use Rattle.pgw_messages.specs.Startup.{startup_packet}
use Rattle.forwarder_core.proofs.Linking.{nothing_cut, some_packet}
use Rattle.forwarder_core.proofs.link.Link.opened.Goals as goal

pub returns : goal.returns
returns g c =
    let p = c.args.startup.now in
    let packet = startup_packet p in
    record {
      startup = sym (some_packet p);
      unopened = sym (sub_self (length packet));
      pod = ([], refl, rw (sub_self (length packet)) c.new.ensures);
      bound = omega arith;
      replies = c.in_ok-write_frames.ensures ∙ rw (c.new-replies.ensures, c.in_ok-session.ensures.frames, c.params.ensures.value) refl;
      reads = ([], refl, nothing_cut);
      session = ap Some (c.in_ok-session.ensures.state ∙ rw c.params.ensures.value refl);
      cut = refl;
    }
