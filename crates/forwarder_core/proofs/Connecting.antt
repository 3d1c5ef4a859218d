-- What a connection stands for, as it goes on.
use Rattle.std.proofs.Common.{◌≡◌, ℕ, ◌+◌, ◌-◌, ◌^◌, min, Bool, true, false, List, [], ◌∷◌, ◌++◌, length, take, drop, Option, Some, None, refl, sym, ap, subst, ◌∙◌, arith}
use Rattle.std.specs.Prelude.{◌==◌, ◌&&◌, nat_lt, option_map, if◌then◌else◌}
use Rattle.std.proofs.lemmas.Bool.{cond_both}
use Rattle.std.proofs.Math.Seq.{take-add}
use Rattle.std.proofs.lemmas.List.{drop-drop, length-drop, length_push}
use Rattle.pgw_frames.specs.declared.frame.Frame.{Frame}
use Rattle.pgw_frames.specs.Frames.{front, Front, Whole, Partial, Malformed, frames, frame_bytes, rest, render}
use Rattle.pgw_frames.proofs.Fronts.{frames_whole, rest_partial, rest_bad}
use Rattle.pgw_messages.specs.declared.params.Pair.{Pair}
use Rattle.proxy_outside.specs.Rules.{Rules}
use Rattle.proxy_outside.specs.declared.identity.ClientKey.{ClientKey}
use Rattle.session_model.specs.Kind.{Kind}
use Rattle.session_model.specs.Solo.{Deed, Take}
use Rattle.session_model.specs.Heard.{with_key, has_ready}
use Rattle.processor_core.specs.Streams.{Cuts, next_message}
use Rattle.processor_core.specs.Stands.{RequestStands}
use Rattle.processor_core.specs.declared.request.Request.{Request}
use Rattle.forwarder_world.specs.declared.counts.Counts.{Counts}
use Rattle.forwarder_world.specs.declared.event.Close.TheVariants.{Bye, ClientCut, PodEnded, PodWrite}
use Rattle.forwarder_world.specs.Link as model
use Rattle.forwarder_world.specs.World.{World, Mode, Closed, counted, closes, client_ends, hands_out, writes, forwards, passes, pod_takes, pod_takes_client, pod_takes_own, new_pod, new_pod_by, new_hears}
use Rattle.forwarder_core.specs.LinkStands.{LinkStands, FreshStands, listens, turn, opens_or_hears}
use Rattle.forwarder_core.specs.Flow.{Flow, flow_of, counts_in, SideStands, ConnectionStands, HandsOut, Tells, Comes}
use Rattle.forwarder_core.specs.declared.connection.Connection.{Connection}
use Rattle.forwarder_core.specs.declared.link.Link.{Link}
use Rattle.forwarder_core.specs.declared.replies.Replies.{Replies}
use Rattle.forwarder_core.specs.RepliesStand.{RepliesStand}
use Rattle.forwarder_core.proofs.Reading.{add_test}
use Rattle.forwarder_core.proofs.Linking.{passes_link}
use Rattle.forwarder_core.proofs.Passing.{held_none}

-- ---- one part of a connection changes

module _ {X Y C R S T : Type 0} (state : X → S) (stands_for : Y → T → Type 0) (key : ClientKey) (p : List Pair) (c : Connection X Y C R) (fl : Flow S T) (a b : Bool) (h : ConnectionStands state stands_for key p c fl a b) where
  pub with_side : (l : Link X Y C R) (r : Replies) (m : model.Link S) (held : Bool) → SideStands state l r m fl.passed held → ConnectionStands state stands_for key p (record c { link = l; replies = r }) (record fl { link = m }) a held
  with_side l r m held s = record {
    same_key = h.same_key;
    params = h.params;
    counts = h.counts;
    bound = h.bound;
    script = h.script;
    whole = h.whole;
    request = h.request;
    side = s;
    fresh = h.fresh;
    no_dial = h.no_dial;
    store = h.store;
    received = h.received;
  }

  pub with_link : (l : Link X Y C R) (m : model.Link S) → ((held : List ℕ) → LinkStands state c.link fl.link held → LinkStands state l m held)
      → ConnectionStands state stands_for key p (record c { link = l }) (record fl { link = m }) a b
  with_link l m on = with_side l c.replies m b (record { held = h.side.held; link = on h.side.held h.side.link; replies = h.side.replies; still = h.side.still })

  pub with_fresh : (l : Option (Link X Y C R)) (m : Option (model.Link S)) → FreshStands state l m → ConnectionStands state stands_for key p (record c { fresh = l }) (record fl { fresh = m }) a b
  with_fresh l m s = record {
    same_key = h.same_key;
    params = h.params;
    counts = h.counts;
    bound = h.bound;
    script = h.script;
    whole = h.whole;
    request = h.request;
    side = h.side;
    fresh = s;
    no_dial = h.no_dial;
    store = h.store;
    received = h.received;
  }

  pub with_fresh_store : (l : Option (Link X Y C R)) (y : Y) (m : Option (model.Link S)) (t : T) → FreshStands state l m → stands_for y t
      → ConnectionStands state stands_for key p (record c { fresh = l; store = y }) (record fl { fresh = m; store = t }) a b
  with_fresh_store l y m t s st = record {
    same_key = h.same_key;
    params = h.params;
    counts = h.counts;
    bound = h.bound;
    script = h.script;
    whole = h.whole;
    request = h.request;
    side = h.side;
    fresh = s;
    no_dial = h.no_dial;
    store = st;
    received = h.received;
  }

  pub with_link_store : (l : Link X Y C R) (y : Y) (m : model.Link S) (t : T) → ((held : List ℕ) → LinkStands state c.link fl.link held → LinkStands state l m held) → stands_for y t
      → ConnectionStands state stands_for key p (record c { link = l; store = y }) (record fl { link = m; store = t }) a b
  with_link_store l y m t on st = record {
    same_key = h.same_key;
    params = h.params;
    counts = h.counts;
    bound = h.bound;
    script = h.script;
    whole = h.whole;
    request = h.request;
    side = record { held = h.side.held; link = on h.side.held h.side.link; replies = h.side.replies; still = h.side.still };
    fresh = h.fresh;
    no_dial = h.no_dial;
    store = st;
    received = h.received;
  }

  pub with_request : (r : Request) (parked : Bool) → RequestStands r (take fl.read fl.script) fl.forwarded parked → ConnectionStands state stands_for key p (record c { request = r }) fl parked b
  with_request r parked s = record {
    same_key = h.same_key;
    params = h.params;
    counts = h.counts;
    bound = h.bound;
    script = h.script;
    whole = h.whole;
    request = s;
    side = h.side;
    fresh = h.fresh;
    no_dial = h.no_dial;
    store = h.store;
    received = h.received;
  }

  pub tells : Tells c fl
  tells = record { counts = h.counts; received = h.received }

-- ---- the link to a new pod

pub fresh_on : {X Y C R S : Type 0} (state : X → S) (o : Option (Link X Y C R)) (l new : Link X Y C R) (m : Option (model.Link S)) (f : model.Link S → model.Link S) → o ≡ Some l
    → ((x : model.Link S) (held : List ℕ) → LinkStands state l x held → LinkStands state new (f x) held) → FreshStands state o m → FreshStands state (Some new) (option_map f m)
fresh_on state None l new m f e on h = absurd cc
fresh_on state (Some x) l new None f e on h = absurd h
fresh_on state (Some x) l new (Some m) f e on h = let same : x ≡ l = cc in on m [] (subst (λ (y : _). LinkStands state y m []) same h)

module _ {S T C R : Type 0} (k : Kind S C R) (rules : Rules T C R) (p : List Pair) (d : World S T C) where
  new_pod_is : (l : model.Link S) → d.fresh ≡ Some l → flow_of (new_pod k rules p d d.fresh) ≡ record (flow_of d) { fresh = Some (turn k rules p l d.store).0; store = (turn k rules p l d.store).1 }
  new_pod_is l e = ap (λ (o : Option (model.Link S)). flow_of (new_pod k rules p d o)) e ∙ by l.cut l.session
    where
      same : flow_of d ≡ record (flow_of d) { fresh = Some l; store = d.store }
      same = ap (λ (o : Option (model.Link S)). record (flow_of d) { fresh = o; store = d.store }) e

      heard : (s : S) (o : Option Frame) → flow_of (new_hears k rules d l s o) ≡ record (flow_of d) { fresh = Some (listens k rules l d.store (Some s) o).0; store = (listens k rules l d.store (Some s) o).1 }
      heard s None = same
      heard s (Some f) = refl

      by : (b : Bool) (o : Option S) → flow_of (if b then d else new_pod_by k rules p d l o)
          ≡ record (flow_of d) { fresh = Some (if b then (l, d.store) else opens_or_hears k rules p l d.store o).0; store = (if b then (l, d.store) else opens_or_hears k rules p l d.store o).1 }
      by true o = same
      by false None = refl
      by false (Some s) = heard s (model.next_to_pod l)

pub fresh_turn : {X Y C R S T : Type 0} (state : X → S) (stands_for : Y → T → Type 0) (key : ClientKey) (p : List Pair) (c : Connection X Y C R) {Cm Rp : Type 0} (k : Kind S Cm Rp) (rules : Rules T Cm Rp) (d : World S T Cm) (a b : Bool) (l new : Link X Y C R) (y : Y)
    → c.fresh ≡ Some l
    → ((m : model.Link S) (held : List ℕ) (t : T) → LinkStands state l m held → stands_for c.store t → LinkStands state new (turn k rules c.startup m t).0 held)
    → ((m : model.Link S) (held : List ℕ) (t : T) → LinkStands state l m held → stands_for c.store t → stands_for y (turn k rules c.startup m t).1)
    → ConnectionStands state stands_for key p c (flow_of d) a b → ConnectionStands state stands_for key p (record c { fresh = Some new; store = y }) (flow_of (new_pod k rules p d d.fresh)) a b
fresh_turn {X} {Y} {C} {R} {S} {T} state stands_for key p c k rules d a b l new y e link store h = by d.fresh refl c.fresh e h.fresh
  where
    by : (m : Option (model.Link S)) → d.fresh ≡ m → (o : Option (Link X Y C R)) → o ≡ Some l → FreshStands state o m → ConnectionStands state stands_for key p (record c { fresh = Some new; store = y }) (flow_of (new_pod k rules p d d.fresh)) a b
    by m is None o s = absurd cc
    by None is (Some x) o s = absurd s
    by (Some m) is (Some x) o s =
        let same : x ≡ l = cc in
        let at : LinkStands state l m [] = subst (λ (z : Link X Y C R). LinkStands state z m []) same s in
        let next = link m [] d.store at h.store in
        let after = store m [] d.store at h.store in
        let told : turn k rules c.startup m d.store ≡ turn k rules p m d.store = ap (λ (q : List Pair). turn k rules q m d.store) h.params in
        let all = with_fresh_store state stands_for key p c (flow_of d) a b h (Some new) y (Some (turn k rules c.startup m d.store).0) (turn k rules c.startup m d.store).1 next after in
        subst (λ (fl : Flow S T). ConnectionStands state stands_for key p (record c { fresh = Some new; store = y }) fl a b)
        (ap (λ r. record (flow_of d) { fresh = Some r.0; store = r.1 }) told ∙ sym (new_pod_is k rules p d m is)) all

-- ---- the current pod

module _ {S T C : Type 0} (d other : World S T C) where
  pub cut_stays : d.link.cut ≡ true → (if d.link.cut then d else other) ≡ d
  cut_stays e = ap (λ (b : Bool). if b then d else other) e

  pub uncut_goes : d.link.cut ≡ false → (if d.link.cut then d else other) ≡ other
  uncut_goes e = ap (λ (b : Bool). if b then d else other) e

-- whichever message the pod takes, its link and the store are the same
pub pod_takes_link : {S T C R : Type 0} (k : Kind S C R) (rules : Rules T C R) (d : World S T C) (o : Option S) (m : Option Frame) (P : World S T C → Type 0)
    → ((taken : ℕ) (story : List (Deed C)) → P (record d { taken = taken; link = (listens k rules d.link d.store o m).0; store = (listens k rules d.link d.store o m).1; story = story }))
    → P (pod_takes k rules d o m)
pod_takes_link k rules d None m P h = h d.taken d.story
pod_takes_link k rules d (Some s) None P h = h d.taken d.story
pod_takes_link k rules d (Some s) (Some f) P h =
    cond_both (nat_lt d.taken (length d.forwarded)) (pod_takes_client k rules d s f) (pod_takes_own k rules d s f) P
    (λ c. h (d.taken + 1) (d.story ++ Take ∷ [])) (λ c. h d.taken d.story)

-- ---- what closes a connection, and what doesn't

module _ {S T C : Type 0} (d : World S T C) where
  pub pod_ended : (key : ClientKey) → (d.link.cut && (d.link.back == length d.link.got)) ≡ true → passes key d None ≡ closes d PodEnded
  pod_ended key e = ap (λ (b : Bool). if b then closes d PodEnded else d) e

  pub pod_goes_on : (key : ClientKey) → (d.link.cut && (d.link.back == length d.link.got)) ≡ false → passes key d None ≡ d
  pod_goes_on key e = ap (λ (b : Bool). if b then closes d PodEnded else d) e

  abbrev ends_by : Bool → World S T C
  ends_by e = closes d (if e then Bye else ClientCut)

  pub client_goes_on : (d.whole && (d.read == length d.script)) ≡ false → client_ends d ≡ d
  client_goes_on e = ap (λ (b : Bool). if b then ends_by (length (rest (take d.read d.script)) == 0) else d) e

  client_at_end : (d.whole && (d.read == length d.script)) ≡ true → client_ends d ≡ ends_by (length (rest (take d.read d.script)) == 0)
  client_at_end e = ap (λ (b : Bool). if b then ends_by (length (rest (take d.read d.script)) == 0) else d) e

  pub client_bye : (d.whole && (d.read == length d.script)) ≡ true → (length (rest (take d.read d.script)) == 0) ≡ true → client_ends d ≡ closes d Bye
  client_bye e r = client_at_end e ∙ ap ends_by r

  pub client_cut : (d.whole && (d.read == length d.script)) ≡ true → (length (rest (take d.read d.script)) == 0) ≡ false → client_ends d ≡ closes d ClientCut
  client_cut e r = client_at_end e ∙ ap ends_by r

  pub write_fails : (f : Frame) (n : Option ℕ) → d.link.cut ≡ true → forwards d (Some f) n ≡ closes (hands_out d f) PodWrite
  write_fails f n e = ap (λ (b : Bool). if b then closes (hands_out d f) PodWrite else writes (hands_out d f) f) e

  pub write_goes : (f : Frame) (n : Option ℕ) → d.link.cut ≡ false
      → forwards d (Some f) n ≡ writes (hands_out d f) f
  write_goes f n e = ap (λ (b : Bool). if b then closes (hands_out d f) PodWrite else writes (hands_out d f) f) e

-- with no message left, what is left is what is held
pub rest_empty : (handed : List Frame) (held fed : List ℕ) → next_message fed handed ≡ None → Cuts handed held fed → (length (rest fed) == 0) ≡ (length fed == length (render handed))
rest_empty handed held fed none h =
    rw (h.rest_is, left (held_none handed held fed h none), h.length_is) (sym (add_test (length (render handed)) (length held)))
  where
    left : frames held ≡ [] → rest held ≡ held
    left e = by (front held) refl
      where
        by : (k : Front) → front held ≡ k → rest held ≡ held
        by (Whole f more) w = absurd (let some = frames_whole held f more w in cc)
        by Partial w = rest_partial held w
        by (Malformed n) w = rest_bad held n w

pub and_true : (x y : Bool) → y ≡ true → (x && y) ≡ x
and_true true y e = e
and_true false y e = refl

module _ {X Y C R S T : Type 0} (state : X → S) (stands_for : Y → T → Type 0) (key : ClientKey) (p : List Pair) where
  -- a message of the client was sent
  pub sent_on : (c : Connection X Y C R) (fl : Flow S T) (held : Bool) (f : Frame) (l : Link X Y C R) (m : model.Link S) (n : ℕ) → HandsOut state stands_for key p c fl f held
      → ((x : List ℕ) → LinkStands state c.link fl.link x → LinkStands state l m x) → n ≡ counted (fl.written + 1)
      → ConnectionStands state stands_for key p (record c { link = l; counts = record c.counts { forwarded = n } }) (record fl { forwarded = fl.forwarded ++ f ∷ []; written = fl.written + 1; link = m }) false held
  sent_on c fl held f l m n h on count =
      let old = h.1 in
      record {
        same_key = old.same_key;
        params = old.params;
        counts = ap (λ (x : Counts). record x { forwarded = n }) old.counts ∙ ap (λ (i : ℕ). record (counts_in fl) { forwarded = i }) count;
        bound = old.bound;
        script = old.script;
        whole = old.whole;
        request = h.2;
        side = record { held = old.side.held; link = on old.side.held old.side.link; replies = old.side.replies; still = old.side.still };
        fresh = old.fresh;
        no_dial = old.no_dial;
        store = old.store;
        received = old.received;
      }

  -- and a Terminate closes
  pub sent_so : (c : Connection X Y C R) (d : World S T C) (before : Mode) (held : Bool) (b : Bool) → ConnectionStands state stands_for key p c (flow_of d) false held
      → Comes state stands_for key p (if b then Some Bye else None) c (record d { mode = if b then Closed Bye else before }) before false held
  sent_so c d before held true h = (record { counts = h.counts; received = h.received }, refl)
  sent_so c d before held false h = (h, refl)

  -- more of the script was read
  pub read_on : (c : Connection X Y C R) (fl : Flow S T) (a b : Bool) (r : Request) (n come taken : ℕ) → come ≡ min n (length c.script)
      → RequestStands r (take fl.read fl.script ++ take come c.script) fl.forwarded a → taken ≡ min (c.counts.taken + come) (2 ^ 64 - 1) → ConnectionStands state stands_for key p c fl a b
      → ConnectionStands state stands_for key p (record c { request = r; script = drop come c.script; counts = record c.counts { taken = taken } }) (record fl { read = min (length fl.script) (fl.read + n) }) a b
  read_on c fl a b r n come taken e request count h =
      let size : length c.script ≡ length fl.script - fl.read = ap length h.script ∙ length-drop fl.read fl.script in
      let to : min (length fl.script) (fl.read + n) ≡ fl.read + come = omega (arith, h.bound) in
      let before : c.counts.taken ≡ counted fl.read = ap (λ (x : Counts). x.taken) h.counts in
      let after : taken ≡ counted (fl.read + come) = omega arith in
      let all : take fl.read fl.script ++ take come c.script ≡ take (fl.read + come) fl.script = ap (λ (t : List ℕ). take fl.read fl.script ++ take come t) h.script ∙ sym (take-add fl.read come fl.script) in
      rw to (record {
        same_key = h.same_key;
        params = h.params;
        counts = ap (λ (x : Counts). record x { taken = taken }) h.counts ∙ ap (λ (i : ℕ). record (counts_in fl) { taken = i }) after;
        bound = omega (arith, h.bound);
        script = ap (drop come) h.script ∙ drop-drop come fl.read fl.script;
        whole = h.whole;
        request = subst (λ (t : List ℕ). RequestStands r t fl.forwarded a) all request;
        side = h.side;
        fresh = h.fresh;
        no_dial = h.no_dial;
        store = h.store;
        received = h.received;
      })

  -- a message of the pod was passed to the client
  pub passed_on : (c : Connection X Y C R) (d : World S T C) (a : Bool) (r : Replies) (f : Frame) (left out : List ℕ) (n : ℕ) (h : ConnectionStands state stands_for key p c (flow_of d) a false)
      → front h.side.held ≡ Whole f left → RepliesStand r left (d.passed ++ f ∷ []) false → n ≡ min (c.counts.passed + 1) (2 ^ 64 - 1) → out ≡ d.received ++ frame_bytes (if has_ready d.passed then f else with_key key f)
      → ConnectionStands state stands_for key p (record c { replies = r; counts = record c.counts { passed = n }; received = out }) (flow_of (passes key d (Some f))) a false
  passed_on c d a r f left out n h front replies count shown =
      let before : c.counts.passed ≡ counted (length d.passed) = ap (λ (x : Counts). x.passed) h.counts in
      let more : length (d.passed ++ f ∷ []) ≡ length d.passed + 1 = length_push d.passed f in
      let after : n ≡ counted (length (d.passed ++ f ∷ [])) = omega arith in
      record {
        same_key = h.same_key;
        params = h.params;
        counts = ap (λ (x : Counts). record x { passed = n }) h.counts ∙ ap (λ (i : ℕ). record (counts_in (flow_of d)) { passed = i }) after;
        bound = h.bound;
        script = h.script;
        whole = h.whole;
        request = h.request;
        side = record { held = left; link = passes_link state c.link d.link h.side.held left f front h.side.link; replies = replies; still = (λ e. absurd cc) };
        fresh = h.fresh;
        no_dial = h.no_dial;
        store = h.store;
        received = shown;
      }
