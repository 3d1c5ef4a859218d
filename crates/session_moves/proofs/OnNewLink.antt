-- What was sent on a new link that was left, and what was got.
use Rattle.std.proofs.Common.{◌^◌, ◌<◌, ◌≡◌, ◌⊎◌, ℕ, ◌+◌, List, [], ◌++◌, take, drop, refl, sym, ap, subst, ◌∙◌, arith, append_assoc, append-nil, inl, inr}
use Rattle.std.proofs.lemmas.List.{take-append-drop}
use Rattle.pgw_frames.specs.declared.frame.Frame.{Frame}
use Rattle.pgw_frames.specs.Frames.{Begins, frame_bytes, render}
use Rattle.pgw_messages.specs.declared.params.Pair.{Pair}
use Rattle.proxy_links.specs.Links.{counts_of}
use Rattle.proxy_outside.specs.Reading.{Origin}
use Rattle.proxy_outside.specs.Writing.{Target}
use Rattle.link_io.specs.Reading.{ReadOn}
use Rattle.link_io.specs.Writing.{Wrote, WroteSome}
use Rattle.link_io.proofs.Parts.{wrote_more, read_more}
use Rattle.link_transfer.specs.Hearing.{Breaks, Drops}
use Rattle.link_transfer.specs.Meeting.{Phase, NewSo, NewCutAt, NewLost}
use Rattle.link_transfer.proofs.Reaching.{IsRefusal, InGreeting, InReply, greeting_reach, reply_reach}
use Rattle.session_model.specs.Texts.{restore_query}
use Rattle.session_model.specs.declared.transfer.TransferKey.{TransferKey}
use Rattle.transfer_exchange.specs.Course.{text_at}
use Rattle.transfer_stages.specs.Exchange.{packet}
use Rattle.transfer_stages.specs.declared.stage.Cut.{Cut}
use Rattle.transfer_stages.specs.declared.stage.Cut.TheVariants.{ReadFault, WriteFault, Ended, BadLength, Unexpected, Strayed, Late}
use Rattle.transfer_stages.specs.declared.stage.Outcome.{Outcome}
use Rattle.transfer_stages.specs.declared.stage.Outcome.TheVariants as outcome
use Rattle.transfer_stages.specs.declared.stage.Stage.{Stage}
use Rattle.transfer_stages.specs.declared.stage.Stage.TheVariants as at
use Rattle.session_moves.specs.Attempts.{NewLeft}
use Rattle.session_moves.proofs.Shown.{ShowsBy, refused_shown, bad_behind, rose_some, late_by}

-- all that was sent begins the packet and the restore Query
pub record OnLink (p : List Pair) (state token : List ℕ) (k l : Target) (one two : Origin) : Type 0 where
  pub sent : List ℕ
  pub wrote : Wrote k l sent
  pub begins : Begins sent (packet p token ++ frame_bytes (restore_query state))
  pub got : List ℕ
  pub idles : ℕ
  pub read : ReadOn one two got idles

sent_begins : (t : TransferKey) (p : List Pair) (state token sent : List ℕ) (fs : List Frame) (y : Stage) → Phase t p state token sent fs y → Begins sent (packet p token ++ frame_bytes (restore_query state))
sent_begins t p state token sent fs y (inl s) = (packet p token ++ frame_bytes (restore_query state), ap (λ (v : List ℕ). v ++ (packet p token ++ frame_bytes (restore_query state))) s.nothing)
sent_begins t p state token sent fs y (inr (inl a)) = (frame_bytes (restore_query state), ap (λ (v : List ℕ). v ++ frame_bytes (restore_query state)) a.text)
sent_begins t p state token sent fs y (inr (inr r)) = ([], append-nil sent ∙ r.text)

abbrev so_link : (t : TransferKey) (p : List Pair) (state token : List ℕ) (w : ℕ) (k l : Target) (one two : Origin) (y : Stage) → NewSo t p state token w k l one two y → OnLink p state token k l one two
so_link t p state token w k l one two y s = record {
  sent = s.sent;
  wrote = s.wrote;
  begins = sent_begins t p state token s.sent s.frames y s.phase;
  got = render s.frames;
  idles = s.heard.idles;
  read = s.heard.read;
}

-- with more that was got
abbrev more_got : (p : List Pair) (state token : List ℕ) (k l : Target) (one two three : Origin) (bytes : List ℕ) (idles : ℕ) → OnLink p state token k l one two → ReadOn two three bytes idles → OnLink p state token k l one three
more_got p state token k l one two three bytes idles o r = record {
  sent = o.sent;
  wrote = o.wrote;
  begins = o.begins;
  got = o.got ++ bytes;
  idles = o.idles + idles;
  read = read_more one two three o.got bytes o.idles idles o.read r;
}

-- with a part of a message
abbrev got_part : (t : TransferKey) (p : List Pair) (state token : List ℕ) (w patience : ℕ) (k tx : Target) (one rx two : Origin) (y : Stage) (c : Cut) → NewSo t p state token w k tx one rx y → Breaks c w patience rx two → OnLink p state token k tx one two
got_part t p state token w patience k tx one rx two y c s b = more_got p state token k tx one rx two b.part b.heard.idles (so_link t p state token w k tx one rx y s) b.heard.read

-- ---- a text that was cut

nothing_some : (k l : Target) → WroteSome k l [] → ⊥
nothing_some k l w = let s = w.some in omega (arith, s)

-- a part of what is due at this stage begins what is still to be sent
part_at : (t : TransferKey) (p : List Pair) (state token : List ℕ) (k l : Target) (y : Stage) → InGreeting state y → WroteSome k l (text_at t p y) → (n : ℕ) × Wrote k l (take n (frame_bytes (restore_query state)))
part_at t p state token k l (at.Restore s key) i w = (w.count, subst (λ (v : List ℕ). Wrote k l (take w.count (frame_bytes (restore_query v)))) i w.wrote)
part_at t p state token k l (at.NewAuth s) i w = absurd (nothing_some k l w)
part_at t p state token k l (at.NewStatus s n key) i w = absurd (nothing_some k l w)
part_at t p state token k l (at.Ended o) i w = absurd (nothing_some k l w)
part_at t p state token k l at.AskOld i w = absurd i
part_at t p state token k l at.OldColumns i w = absurd i
part_at t p state token k l at.OldRow i w = absurd i
part_at t p state token k l (at.OldTag s) i w = absurd i
part_at t p state token k l (at.OldReady s) i w = absurd i
part_at t p state token k l (at.Dial s u) i w = absurd i
part_at t p state token k l (at.Packet s u) i w = absurd i
part_at t p state token k l (at.NewColumns key) i w = absurd i
part_at t p state token k l (at.NewRow key) i w = absurd i
part_at t p state token k l (at.NewTag key) i w = absurd i
part_at t p state token k l (at.NewReady key) i w = absurd i

none_in_reply : (t : TransferKey) (p : List Pair) (k l : Target) (y : Stage) → InReply y → WroteSome k l (text_at t p y) → ⊥
none_in_reply t p k l (at.NewColumns key) i w = nothing_some k l w
none_in_reply t p k l (at.NewRow key) i w = nothing_some k l w
none_in_reply t p k l (at.NewTag key) i w = nothing_some k l w
none_in_reply t p k l (at.NewReady key) i w = nothing_some k l w
none_in_reply t p k l (at.Ended o) i w = nothing_some k l w
none_in_reply t p k l at.AskOld i w = i
none_in_reply t p k l at.OldColumns i w = i
none_in_reply t p k l at.OldRow i w = i
none_in_reply t p k l (at.OldTag s) i w = i
none_in_reply t p k l (at.OldReady s) i w = i
none_in_reply t p k l (at.Dial s u) i w = i
none_in_reply t p k l (at.Packet s u) i w = i
none_in_reply t p k l (at.NewAuth s) i w = i
none_in_reply t p k l (at.NewStatus s n key) i w = i
none_in_reply t p k l (at.Restore s key) i w = i

-- a front of what stands behind others, behind them
behind_begins : (n : ℕ) (front all : List ℕ) → Begins (front ++ take n all) (front ++ all)
behind_begins n front all = (drop n all, append_assoc front (take n all) (drop n all) ∙ ap (λ (v : List ℕ). front ++ v) (take-append-drop n all))

take_front : (n : ℕ) (xs ys : List ℕ) → Begins (take n xs) (xs ++ ys)
take_front n xs ys = (drop n xs ++ ys, sym (append_assoc (take n xs) (drop n xs) ys) ∙ ap (λ (v : List ℕ). v ++ ys) (take-append-drop n xs))

cut_begins : (t : TransferKey) (p : List Pair) (state token sent : List ℕ) (fs : List Frame) (y : Stage) (k l : Target) → Phase t p state token sent fs y → WroteSome k l (text_at t p y) → (part : List ℕ) × Wrote k l part × Begins (sent ++ part) (packet p token ++ frame_bytes (restore_query state))
cut_begins t p state token sent fs y k l (inl s) w =
    let v : WroteSome k l (packet p token) = subst (λ (z : Stage). WroteSome k l (text_at t p z)) s.stage w in (
      take v.count (packet p token),
      v.wrote,
      subst (λ (z : List ℕ). Begins (z ++ take v.count (packet p token)) (packet p token ++ frame_bytes (restore_query state))) (sym s.nothing) (take_front v.count (packet p token) (frame_bytes (restore_query state))),
    )
cut_begins t p state token sent fs y k l (inr (inl a)) w =
    let n = part_at t p state token k l y (greeting_reach t p state fs (at.NewAuth state) y refl a.greets) w in (
      take n.0 (frame_bytes (restore_query state)),
      n.1,
      subst (λ (z : List ℕ). Begins (z ++ take n.0 (frame_bytes (restore_query state))) (packet p token ++ frame_bytes (restore_query state))) (sym a.text) (behind_begins n.0 (packet p token) (frame_bytes (restore_query state))),
    )
cut_begins t p state token sent fs y k l (inr (inr r)) w = absurd (none_in_reply t p k l y (reply_reach t p r.reply (at.NewColumns r.key) y tt r.restores) w)

-- and its record will show why it was left
pub record Left (p : List Pair) (state token : List ℕ) (patience : ℕ) (k l : Target) (one two : Origin) : Type 0 where
  pub on : OnLink p state token k l one two
  pub shown : ShowsBy patience (counts_of l two) on.got

left_by : (c : Cut) (t : TransferKey) (p : List Pair) (state token : List ℕ) (w patience : ℕ) (k tx l : Target) (one rx two : Origin) (y : Stage) → patience < 2 ^ 64 → NewSo t p state token w k tx one rx y → NewCutAt c t p w patience tx l rx two y
    → Left p state token patience k l one two
left_by WriteFault t p state token w patience k tx l one rx two y small s h =
    let part = cut_begins t p state token s.sent s.frames y tx l s.phase h.0 in
    record {
      on = record {
        sent = s.sent ++ part.0;
        wrote = wrote_more k tx l s.sent part.0 s.wrote part.1;
        begins = part.2;
        got = render s.frames;
        idles = s.heard.idles;
        read = subst (λ (o : Origin). ReadOn one o (render s.frames) s.heard.idles) (sym h.1) s.heard.read;
      };
      shown = inr (inr (inl (rose_some tx.faults l.faults h.0.rose)));
    }
left_by ReadFault t p state token w patience k tx l one rx two y small s h = subst (λ (z : Target). Left p state token patience k z one two) (sym h.0) (record { on = got_part t p state token w patience k tx one rx two y ReadFault s h.2; shown = inr (inr (inr (inl (rose_some rx.faults two.faults h.2.why.1)))) })
left_by Ended t p state token w patience k tx l one rx two y small s h = subst (λ (z : Target). Left p state token patience k z one two) (sym h.0) (record { on = got_part t p state token w patience k tx one rx two y Ended s h.2; shown = inr (inr (inr (inr (inl h.2.why.1)))) })
left_by (Late n) t p state token w patience k tx l one rx two y small s h = subst (λ (z : Target). Left p state token patience k z one two) (sym h.0) (record {
  on = got_part t p state token w patience k tx one rx two y (Late n) s h.2;
  shown = inr (inr (inr (inr (inr (late_by one.waits rx.waits two.waits w h.2.heard.idles n patience small
      (let q = s.heard.read.waits in let e = s.heard.counted in omega (arith, q, e)) h.2.heard.read.waits (h.2.why.1 ∙ h.2.heard.counted) h.2.why.2)))));
})
left_by (BadLength n) t p state token w patience k tx l one rx two y small s h = subst (λ (z : Target). Left p state token patience k z one two) (sym h.0) (record { on = got_part t p state token w patience k tx one rx two y (BadLength n) s h.2; shown = inr (inl (n, bad_behind s.frames h.2.part n s.good h.2.why)) })
left_by (Unexpected f) t p state token w patience k tx l one rx two y small s h = absurd h
left_by (Strayed g) t p state token w patience k tx l one rx two y small s h = absurd h

refused_link : (t : TransferKey) (p : List Pair) (state token : List ℕ) (w patience : ℕ) (k l : Target) (one two : Origin) (o : Outcome) → IsRefusal o → NewSo t p state token w k l one two (at.Ended o) → Left p state token patience k l one two
refused_link t p state token w patience k l one two o r s = record { on = so_link t p state token w k l one two (at.Ended o) s; shown = refused_shown t p state token w patience k l one two o (counts_of l two) r s }

pub left_link : (t : TransferKey) (p : List Pair) (state token : List ℕ) (patience : ℕ) (k l : Target) (one two : Origin) → patience < 2 ^ 64 → NewLeft t p state token patience k l one two → Left p state token patience k l one two
left_link t p state token patience k l one two small (inl (c, inl e)) = refused_link t p state token e.waits patience k l one two (outcome.NewCut c) tt e.so
left_link t p state token patience k l one two small (inl (c, inr m)) = left_by c t p state token m.waits patience k m.tx l one m.rx two m.stage small m.so m.cut
left_link t p state token patience k l one two small (inr (fields, e)) = refused_link t p state token e.waits patience k l one two (outcome.RevivalRefused fields) tt e.so

lost_by : (t : TransferKey) (p : List Pair) (state token : List ℕ) (w patience : ℕ) (k l : Target) (one rx two : Origin) → OnLink p state token k l one rx → (two ≡ rx) ⊎ ((after : ℕ) × (tag : ℕ) × Drops tag w after patience rx two) → OnLink p state token k l one two
lost_by t p state token w patience k l one rx two o (inl e) = subst (λ (z : Origin). OnLink p state token k l one z) (sym e) o
lost_by t p state token w patience k l one rx two o (inr (after, tag, d)) = more_got p state token k l one rx two (frame_bytes d.message) d.comes.heard.idles o d.comes.heard.read

pub lost_link : (t : TransferKey) (p : List Pair) (state token : List ℕ) (patience : ℕ) (k l : Target) (one two : Origin) → NewLost t p state token patience k l one two → OnLink p state token k l one two
lost_link t p state token patience k l one two n = lost_by t p state token n.waits patience k l one n.rx two (so_link t p state token n.waits k l one n.rx n.stage n.so) n.lost
