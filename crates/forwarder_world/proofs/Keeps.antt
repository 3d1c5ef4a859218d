-- What every event keeps, and what the parts of a world do to it.
use Rattle.std.proofs.Common.{◌≡◌, ℕ, ◌+◌, ◌≤◌, min, Bool, true, false, List, [], ◌∷◌, ◌++◌, length, take, Option, Some, None, refl, sym, ap, subst, ◌∙◌, arith, append_assoc, add_assoc, zero-add, add-zero}
use Rattle.std.specs.Prelude.{slice_get, if◌then◌else◌}
use Rattle.std.proofs.lemmas.List.{append-nil, take-take, take-append-le, length-append, length_push}
use Rattle.pgw_frames.specs.declared.frame.Frame.{Frame}
use Rattle.pgw_frames.specs.Frames.{frames, frame_bytes, render, IsGood, Begins}
use Rattle.pgw_frames.proofs.Longest.{frames_good}
use Rattle.proxy_outside.specs.Rules.{Rules, after}
use Rattle.session_model.specs.Kind.{Kind, Answers, Telling, told_all, WasBegun}
use Rattle.session_model.specs.Laws.{Laws}
use Rattle.pgw_messages.specs.declared.params.Pair.{Pair}
use Rattle.session_model.specs.Solo.{Deed, Take, Other, Solo, store_after, answer_to, told, takes, does, lives, begun}
use Rattle.session_model.specs.Heard.{with_key, has_ready}
use Rattle.forwarder_world.specs.Headline.{takes_in}
use Rattle.forwarder_world.specs.World.{World}
use Rattle.proxy_outside.specs.declared.identity.ClientKey.{ClientKey}
use Rattle.forwarder_world.proofs.Lists.{begins_trans, begins_get, begins_next, frames_of_take, good_get}
use Rattle.forwarder_world.proofs.Keyed.{keyed, keyed_next}
use Rattle.forwarder_world.proofs.Sums.{Sums, sums_tells}
use Rattle.forwarder_world.proofs.Links.{Sends, Gets, render_push, push_to, sends_push, sends_take, sends_good, gets_take, gets_grow, gets_cut}

-- ---- the client's messages

pub record Fore (script : List ℕ) (read : ℕ) (forwarded : List Frame) : Type 0 where
  pub bound : read ≤ length script
  pub in_order : Begins forwarded (frames (take read script))

pub fore_gives : (script b : List ℕ) (read : ℕ) (forwarded : List Frame) → Fore script read forwarded → Fore (script ++ b) read forwarded
fore_gives script b read forwarded h = record { bound = omega (arith, length-append script b, h.bound); in_order = rw (take-append-le read script b h.bound) h.in_order }

pub fore_reads : (script : List ℕ) (read n : ℕ) (forwarded : List Frame) → Fore script read forwarded → Fore script (min (length script) (read + n)) forwarded
fore_reads script read n forwarded h =
    let more : ℕ = min (length script) (read + n) in
    let le : read ≤ more = omega (arith, h.bound) in
    record {
      bound = omega arith;
      in_order = begins_trans forwarded (frames (take read script)) (frames (take more script)) h.in_order (rw (← take-take read more script le) (frames_of_take read (take more script)));
    }

pub fore_forwards : (script : List ℕ) (read : ℕ) (forwarded : List Frame) (f : Frame) → slice_get (frames (take read script)) (length forwarded) ≡ Some f → Fore script read forwarded → Fore script read (forwarded ++ f ∷ [])
fore_forwards script read forwarded f e h = record { bound = h.bound; in_order = begins_next forwarded (frames (take read script)) f h.in_order e }

-- ---- the session

abbrev Reached : {T C R : Type 0} → Rules T C R → T → Type 0
Reached {T} {C} {R} rules store = (before : List C) × (store ≡ after rules rules.first before)

pub record Life {S T C R : Type 0} (k : Kind S C R) (rules : Rules T C R) (kept : S → Type 0) (p : List Pair) (forwarded : List Frame) (story : List (Deed C)) (session : S) (store : T) (taken : ℕ) (replied : List Frame) : Type 0 where
  pub alive : (fs : List Frame) → Begins forwarded fs → lives k rules fs (begun k rules p) story ≡ record { session = session; store = store; taken = taken; replied = replied }
  pub session_kept : kept session
  pub reached : Reached rules store
  pub was_begun : WasBegun k p session
  pub took : takes_in story ≡ taken

takes_in-push : {C : Type 0} (ds : List (Deed C)) (d : Deed C) → takes_in (ds ++ d ∷ []) ≡ takes_in ds + takes_in (d ∷ [])
takes_in-push [] d = sym (zero-add (takes_in (d ∷ [])))
takes_in-push (Take ∷ ds) d = ap (λ (n : ℕ). 1 + n) (takes_in-push ds d) ∙ sym (add_assoc 1 (takes_in ds) (takes_in (d ∷ [])))
takes_in-push (Other c ∷ ds) d = takes_in-push ds d

lives_push : {S T C R : Type 0} (k : Kind S C R) (rules : Rules T C R) (fs : List Frame) (so : Solo S T) (ds : List (Deed C)) (d : Deed C) → lives k rules fs so (ds ++ d ∷ []) ≡ does k rules fs (lives k rules fs so ds) d
lives_push k rules fs so [] d = refl
lives_push k rules fs so (e ∷ ds) d = lives_push k rules fs (does k rules fs so e) ds d

after_push : {T C R : Type 0} (rules : Rules T C R) (t : T) (cs : List C) (c : C) → after rules t (cs ++ c ∷ []) ≡ rules.next (after rules t cs) c
after_push rules t [] c = refl
after_push rules t (d ∷ cs) c = after_push rules (rules.next t d) cs c

told_push : {S C R : Type 0} (k : Kind S C R) (s : S) (ts : List (Telling R)) (t : Telling R) → told_all k s (ts ++ t ∷ []) ≡ (k.tells (told_all k s ts) t.frame t.answer).0
told_push k s [] t = refl
told_push k s (u ∷ ts) t = told_push k (k.tells s u.frame u.answer).0 ts t

reached_next : {T C R : Type 0} (rules : Rules T C R) (store : T) (c : C) → Reached rules store → Reached rules (rules.next store c)
reached_next rules store c r = (r.0 ++ c ∷ [], ap (λ t. rules.next t c) r.1 ∙ sym (after_push rules rules.first r.0 c))

reached_after : {T C R : Type 0} (rules : Rules T C R) (store : T) (o : Option C) → Reached rules store → Reached rules (store_after rules store o)
reached_after rules store None r = r
reached_after rules store (Some c) r = reached_next rules store c r

answered : {T C R : Type 0} (rules : Rules T C R) (store : T) (o : Option C) → Reached rules store → Answers rules o (answer_to rules store o)
answered rules store None r = tt
answered rules store (Some c) r = (r.0, ap (λ t. rules.reply t c) r.1)

life_forwards : {S T C R : Type 0} (k : Kind S C R) (rules : Rules T C R) (kept : S → Type 0) (p : List Pair) (forwarded : List Frame) (story : List (Deed C)) (session : S) (store : T) (taken : ℕ) (replied : List Frame) (f : Frame)
    → Life k rules kept p forwarded story session store taken replied → Life k rules kept p (forwarded ++ f ∷ []) story session store taken replied
life_forwards k rules kept p forwarded story session store taken replied f h = record {
  alive = λ fs b. h.alive fs (begins_trans forwarded (forwarded ++ f ∷ []) fs (f ∷ [], refl) b);
  session_kept = h.session_kept;
  reached = h.reached;
  was_begun = h.was_begun;
  took = h.took;
}

life_takes : {S T C R : Type 0} (k : Kind S C R) (rules : Rules T C R) (kept : S → Type 0) (laws : Laws k rules kept) (p : List Pair) (forwarded : List Frame) (story : List (Deed C)) (session : S) (store : T) (taken : ℕ) (replied : List Frame) (f : Frame)
    → slice_get forwarded taken ≡ Some f → IsGood f
    → Life k rules kept p forwarded story session store taken replied
    → Life k rules kept p forwarded (story ++ Take ∷ []) (told k rules session store f).0 (store_after rules store (k.asks session f)) (taken + 1) (replied ++ (told k rules session store f).1)
life_takes {S} {T} {C} {R} k rules kept laws p forwarded story session store taken replied f e good h =
    let a : Option R = answer_to rules store (k.asks session f) in
    let fits = laws.tell_fits session f a h.session_kept good (answered rules store (k.asks session f) h.reached) in
    record {
      alive = λ fs b.
          lives_push k rules fs (begun k rules p) story Take
          ∙ ap (λ (so : Solo S T). does k rules fs so Take) (h.alive fs b)
          ∙ ap (λ (o : Option Frame). takes k rules (record { session = session; store = store; taken = taken; replied = replied }) o) (begins_get forwarded fs taken f b e);
      session_kept = fits.0;
      reached = reached_after rules store (k.asks session f) h.reached;
      was_begun = (
        h.was_begun.0 ++ record { frame = f; answer = a } ∷ [],
        ap (λ (s : S). (k.tells s f a).0) h.was_begun.1 ∙ sym (told_push k (k.begins p).0 h.was_begun.0 (record { frame = f; answer = a })),
      );
      took = takes_in-push story Take ∙ ap (λ (n : ℕ). n + 1) h.took;
    }

life_others : {S T C R : Type 0} (k : Kind S C R) (rules : Rules T C R) (kept : S → Type 0) (p : List Pair) (forwarded : List Frame) (story : List (Deed C)) (session : S) (store : T) (taken : ℕ) (replied : List Frame) (c : C)
    → Life k rules kept p forwarded story session store taken replied → Life k rules kept p forwarded (story ++ Other c ∷ []) session (rules.next store c) taken replied
life_others {S} {T} {C} {R} k rules kept p forwarded story session store taken replied c h = record {
  alive = λ fs b. lives_push k rules fs (begun k rules p) story (Other c) ∙ ap (λ (so : Solo S T). does k rules fs so (Other c)) (h.alive fs b);
  session_kept = h.session_kept;
  reached = reached_next rules store c h.reached;
  was_begun = h.was_begun;
  took = takes_in-push story (Other c) ∙ add-zero (takes_in story) ∙ h.took;
}

-- ---- a world's parts

-- what of a world matters here
pub record View (S T C : Type 0) : Type 0 where
  pub script : List ℕ
  pub read : ℕ
  pub forwarded : List Frame
  pub written : ℕ
  pub taken : ℕ
  pub passed : List Frame
  pub received : List ℕ
  pub store : T
  pub story : List (Deed C)
  pub sent : List ℕ  -- of the current link, as the following ones
  pub heard : ℕ
  pub got : List ℕ
  pub cut : Bool
  pub out : ℕ
  pub session : Option S

abbrev pub view : {S T C : Type 0} → World S T C → View S T C
view w = record {
  script = w.script;
  read = w.read;
  forwarded = w.forwarded;
  written = w.written;
  taken = w.taken;
  passed = w.passed;
  received = w.received;
  store = w.store;
  story = w.story;
  sent = w.link.sent;
  heard = w.link.taken;
  got = w.link.got;
  cut = w.link.cut;
  out = w.link.out;
  session = w.link.session;
}

-- the lists that a world's bytes stand for
pub record Parts (S : Type 0) : Type 0 where
  pub done : List Frame  -- the client's messages that were taken
  pub ahead : List Frame  -- those that are on their way
  pub told : List Frame  -- all that the current link's pod took
  pub own_sent : List Frame  -- a transfer's text behind those on their way
  pub gone : List Frame  -- what was read of the current link
  pub owed : List Frame  -- replies that the client is still to get
  pub own_got : List Frame  -- replies to a transfer's text behind them
  pub replied : List Frame  -- all replies to the client's messages
  pub session : S

pub record Keeps {S T C R : Type 0} (k : Kind S C R) (rules : Rules T C R) (kept : S → Type 0) (key : ClientKey) (p : List Pair) (v : View S T C) (q : Parts S) : Type 0 where
  pub fore : Fore v.script v.read v.forwarded
  pub written_is : v.written ≡ length v.forwarded
  pub shares : v.forwarded ≡ q.done ++ q.ahead
  pub done_is : length q.done ≡ v.taken
  pub sends : Sends v.sent v.heard q.told (q.ahead ++ q.own_sent)
  pub gets : Gets v.got v.cut v.out q.gone (q.owed ++ q.own_got)
  pub passed_is : v.passed ++ q.owed ≡ (k.begins p).1 ++ q.replied
  pub received_is : v.received ≡ render (keyed key v.passed)
  pub session_is : v.session ≡ Some q.session
  pub life : Life k rules kept p v.forwarded v.story q.session v.store v.taken q.replied
  pub sums : Sums k q.done q.session q.replied

module _ {S T C R : Type 0} (k : Kind S C R) (rules : Rules T C R) (kept : S → Type 0) (laws : Laws k rules kept) (key : ClientKey) (p : List Pair) where
  abbrev K : View S T C → Parts S → Type 0
  K v q = Keeps k rules kept key p v q

  pub keeps_gives : (v : View S T C) (q : Parts S) (b : List ℕ) → K v q → K (record v { script = v.script ++ b }) q
  keeps_gives v q b h = record {
    fore = fore_gives v.script b v.read v.forwarded h.fore;
    written_is = h.written_is;
    shares = h.shares;
    done_is = h.done_is;
    sends = h.sends;
    gets = h.gets;
    passed_is = h.passed_is;
    received_is = h.received_is;
    session_is = h.session_is;
    life = h.life;
    sums = h.sums;
  }

  pub keeps_reads : (v : View S T C) (q : Parts S) (n : ℕ) → K v q → K (record v { read = min (length v.script) (v.read + n) }) q
  keeps_reads v q n h = record {
    fore = fore_reads v.script v.read n v.forwarded h.fore;
    written_is = h.written_is;
    shares = h.shares;
    done_is = h.done_is;
    sends = h.sends;
    gets = h.gets;
    passed_is = h.passed_is;
    received_is = h.received_is;
    session_is = h.session_is;
    life = h.life;
    sums = h.sums;
  }

  pub keeps_forwards : (v : View S T C) (q : Parts S) (f : Frame) → slice_get (frames (take v.read v.script)) (length v.forwarded) ≡ Some f → q.own_sent ≡ [] → K v q
      → K (record v { forwarded = v.forwarded ++ f ∷ []; written = v.written + 1; sent = v.sent ++ frame_bytes f }) (record q { ahead = q.ahead ++ f ∷ [] })
  keeps_forwards v q f e none h =
      let good : IsGood f = good_get (frames (take v.read v.script)) (length v.forwarded) f (frames_good (take v.read v.script)) e in
      let plain : Sends v.sent v.heard q.told q.ahead = subst (λ t. Sends v.sent v.heard q.told t) (rw none (append-nil q.ahead)) h.sends in
      record {
        fore = fore_forwards v.script v.read v.forwarded f e h.fore;
        written_is = ap (λ (n : ℕ). n + 1) h.written_is ∙ sym (length_push v.forwarded f);
        shares = rw h.shares (append_assoc q.done q.ahead (f ∷ []));
        done_is = h.done_is;
        sends = rw (none, append-nil (q.ahead ++ f ∷ [])) (sends_push v.sent v.heard q.told q.ahead f good plain);
        gets = h.gets;
        passed_is = h.passed_is;
        received_is = h.received_is;
        session_is = h.session_is;
        life = life_forwards k rules kept p v.forwarded v.story q.session v.store v.taken q.replied f h.life;
        sums = h.sums;
      }

  pub keeps_passes : (v : View S T C) (q : Parts S) (f : Frame) (more : List Frame) → q.owed ≡ f ∷ more → K v q
      → K (record v { passed = v.passed ++ f ∷ []; received = v.received ++ frame_bytes (if has_ready v.passed then f else with_key key f); out = v.out + 1 }) (record q { gone = q.gone ++ f ∷ []; owed = more })
  keeps_passes v q f more e h = record {
    fore = h.fore;
    written_is = h.written_is;
    shares = h.shares;
    done_is = h.done_is;
    sends = h.sends;
    gets = gets_take v.got v.cut v.out q.gone (more ++ q.own_got) f (subst (λ (t : List Frame). Gets v.got v.cut v.out q.gone (t ++ q.own_got)) e h.gets);
    passed_is = rw (← push_to v.passed f more, ← e) h.passed_is;
    received_is = rw (keyed_next key v.passed f, h.received_is) (render_push (keyed key v.passed) (if has_ready v.passed then f else with_key key f));
    session_is = h.session_is;
    life = h.life;
    sums = h.sums;
  }

  pub keeps_others : (v : View S T C) (q : Parts S) (c : C) → K v q → K (record v { store = rules.next v.store c; story = v.story ++ Other c ∷ [] }) q
  keeps_others v q c h = record {
    fore = h.fore;
    written_is = h.written_is;
    shares = h.shares;
    done_is = h.done_is;
    sends = h.sends;
    gets = h.gets;
    passed_is = h.passed_is;
    received_is = h.received_is;
    session_is = h.session_is;
    life = life_others k rules kept p v.forwarded v.story q.session v.store v.taken q.replied c h.life;
    sums = h.sums;
  }

  pub keeps_cut : (v : View S T C) (q : Parts S) (n : ℕ) → K v q → K (record v { got = take n v.got; cut = true }) q
  keeps_cut v q n h = record {
    fore = h.fore;
    written_is = h.written_is;
    shares = h.shares;
    done_is = h.done_is;
    sends = h.sends;
    gets = gets_cut n v.got v.cut v.out q.gone (q.owed ++ q.own_got) h.gets;
    passed_is = h.passed_is;
    received_is = h.received_is;
    session_is = h.session_is;
    life = h.life;
    sums = h.sums;
  }

  -- the pod takes a message of the client
  pub keeps_client : (v : View S T C) (q : Parts S) (f : Frame) (more : List Frame) → q.ahead ≡ f ∷ more → q.own_got ≡ [] → v.cut ≡ false → K v q
      → K
      (record v {
        taken = v.taken + 1;
        heard = v.heard + 1;
        got = v.got ++ render (told k rules q.session v.store f).1;
        session = Some (told k rules q.session v.store f).0;
        store = store_after rules v.store (k.asks q.session f);
        story = v.story ++ Take ∷ [];
      })
      (record q {
        done = q.done ++ f ∷ [];
        ahead = more;
        told = q.told ++ f ∷ [];
        owed = q.owed ++ (told k rules q.session v.store f).1;
        replied = q.replied ++ (told k rules q.session v.store f).1;
        session = (told k rules q.session v.store f).0;
      })
  keeps_client v q f more e none uncut h =
      let new : List Frame = (told k rules q.session v.store f).1 in
      let a : Option R = answer_to rules v.store (k.asks q.session f) in
      let sends : Sends v.sent v.heard q.told (f ∷ (more ++ q.own_sent)) = subst (λ (t : List Frame). Sends v.sent v.heard q.told (t ++ q.own_sent)) e h.sends in
      let good : IsGood f = sends_good v.sent v.heard q.told (more ++ q.own_sent) f sends in
      let fits = laws.tell_fits q.session f a h.life.session_kept good (answered rules v.store (k.asks q.session f) h.life.reached) in
      let shares : v.forwarded ≡ q.done ++ f ∷ more = rw (← e) h.shares in
      let at : slice_get v.forwarded v.taken ≡ Some f = rw (shares, ← h.done_is) (there q.done f more) in
      let gets : Gets v.got v.cut v.out q.gone q.owed = subst (λ t. Gets v.got v.cut v.out q.gone t) (rw none (append-nil q.owed)) h.gets in
      record {
        fore = h.fore;
        written_is = h.written_is;
        shares = shares ∙ push_to q.done f more;
        done_is = length_push q.done f ∙ ap (λ n. n + 1) h.done_is;
        sends = sends_take v.sent v.heard q.told (more ++ q.own_sent) f sends;
        gets = rw (none, append-nil (q.owed ++ new)) (gets_grow v.got v.cut v.out q.gone q.owed new uncut fits.1 gets);
        passed_is = sym (append_assoc v.passed q.owed new) ∙ ap (λ (t : List Frame). t ++ new) h.passed_is ∙ append_assoc (k.begins p).1 q.replied new;
        received_is = h.received_is;
        session_is = refl;
        life = life_takes k rules kept laws p v.forwarded v.story q.session v.store v.taken q.replied f at good h.life;
        sums = sums_tells k rules kept laws q.done q.session q.replied f a h.sums;
      }
    where
      there : (xs : List Frame) (f : Frame) (more : List Frame) → slice_get (xs ++ f ∷ more) (length xs) ≡ Some f
      there [] f more = refl
      there (x ∷ xs) f more = there xs f more
