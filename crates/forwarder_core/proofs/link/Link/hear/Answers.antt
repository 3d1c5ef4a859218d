use Rattle.std.proofs.Common.{◌≡◌, ◌∙◌, ◌++◌, ◌-◌, ◌+◌, ◌∷◌, [], List, ℕ, Some, None, length, take, subst, sym, ap, arith}
use Rattle.std.specs.Prelude.{slice_get, option_map}
use Rattle.std.proofs.lemmas.List.{length_push, length-append, drop-append-le}
use Rattle.pgw_frames.specs.Frames.{frames, render}
use Rattle.session_model.specs.Solo.{told}
use Rattle.forwarder_world.specs.Link.{next_to_pod}
use Rattle.forwarder_core.proofs.Reading.{reads_more}
use Rattle.forwarder_core.proofs.Linking.{heard_is, heard_none}
use Rattle.forwarder_core.proofs.link.Link.hear.Goals as goal

pub returns-in_ok-write_frames-in-Some-2-clause-link : goal.returns-in_ok-write_frames-in-Some-2-clause-link
returns-in_ok-write_frames-in-Some-2-clause-link g c m held t h st =
    let at = rw c.in-Some-2.is at c.in_ok-f.ensures.next in
    let n = at m.sent (m.delivered - length m.startup) h.pod.0 h.pod.2 in
    let f = c.in-Some-2.f in
    let k = g.S.Session.kind in
    let rules = g.S.Store.Machine.rules in
    let s = g.S.Session.state c.in-Some.session in
    let there : m.session ≡ Some s = sym h.session ∙ ap (λ o. option_map g.S.Session.state o) c.in-Some.is in
    let is : next_to_pod m ≡ Some f = subst (λ (i : ℕ). slice_get (frames (take (m.delivered - length m.startup) m.sent)) i ≡ Some f) h.pod.1 n.0 in
    let replies : c.in_ok-replies-in-Some-2.replies ≡ (told k rules s t f).1 = c.in_ok-replies-in-Some-2.ensures.frames t st in
    let more : List ℕ = render (told k rules s t f).1 in
    rw (heard_is k rules m t s f there is) (record {
      startup = h.startup;
      unopened = h.unopened;
      pod = (h.pod.0 ++ f ∷ [], length_push h.pod.0 f ∙ ap (λ (i : ℕ). i + 1) h.pod.1, n.1);
      bound = omega (arith, h.bound, length-append m.got more);
      replies = c.in_ok-write_frames-in-Some-2.ensures ∙ rw (h.replies, replies) (sym (drop-append-le m.back m.got more h.bound));
      reads = reads_more m held more h.bound h.reads;
      session = ap Some (c.in_ok-replies-in-Some-2.ensures.state t st);
      cut = h.cut;
    })

pub returns-in_ok-write_frames-in-Some-2-clause-store : goal.returns-in_ok-write_frames-in-Some-2-clause-store
returns-in_ok-write_frames-in-Some-2-clause-store g c m held t h st =
    let at = rw c.in-Some-2.is at c.in_ok-f.ensures.next in
    let n = at m.sent (m.delivered - length m.startup) h.pod.0 h.pod.2 in
    let f = c.in-Some-2.f in
    let k = g.S.Session.kind in
    let rules = g.S.Store.Machine.rules in
    let s = g.S.Session.state c.in-Some.session in
    let there : m.session ≡ Some s = sym h.session ∙ ap (λ o. option_map g.S.Session.state o) c.in-Some.is in
    let is : next_to_pod m ≡ Some f = subst (λ (i : ℕ). slice_get (frames (take (m.delivered - length m.startup) m.sent)) i ≡ Some f) h.pod.1 n.0 in
    rw (heard_is k rules m t s f there is) (c.in_ok-replies-in-Some-2.ensures.store t st)

pub returns-in-None-clause-link : goal.returns-in-None-clause-link
returns-in-None-clause-link g c m held t h st =
    let at = rw c.in-None.is at c.in_ok-f.ensures.next in
    let n = at m.sent (m.delivered - length m.startup) h.pod.0 h.pod.2 in
    let k = g.S.Session.kind in
    let rules = g.S.Store.Machine.rules in
    let s = g.S.Session.state c.in-Some.session in
    let there : m.session ≡ Some s = sym h.session ∙ ap (λ o. option_map g.S.Session.state o) c.in-Some.is in
    let is : next_to_pod m ≡ None = subst (λ (i : ℕ). slice_get (frames (take (m.delivered - length m.startup) m.sent)) i ≡ None) h.pod.1 n.0 in
    rw (heard_none k rules m t s there is) (record {
      startup = h.startup;
      unopened = h.unopened;
      pod = (h.pod.0, h.pod.1, n.1);
      bound = h.bound;
      replies = h.replies;
      reads = h.reads;
      session = sym there;
      cut = h.cut;
    })

pub returns-in-None-clause-store : goal.returns-in-None-clause-store
returns-in-None-clause-store g c m held t h st =
    let at = rw c.in-None.is at c.in_ok-f.ensures.next in
    let n = at m.sent (m.delivered - length m.startup) h.pod.0 h.pod.2 in
    let k = g.S.Session.kind in
    let rules = g.S.Store.Machine.rules in
    let s = g.S.Session.state c.in-Some.session in
    let there : m.session ≡ Some s = sym h.session ∙ ap (λ o. option_map g.S.Session.state o) c.in-Some.is in
    let is : next_to_pod m ≡ None = subst (λ (i : ℕ). slice_get (frames (take (m.delivered - length m.startup) m.sent)) i ≡ None) h.pod.1 n.0 in
    rw (heard_none k rules m t s there is) st
