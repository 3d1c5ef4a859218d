-- Commands that are asked in turn.
use Rattle.std.proofs.Common.{◌≡◌, ℕ, ◌+◌, ◌-◌, ◌^◌, ◌<◌, ◌≤◌, min, List, [], ◌∷◌, ◌++◌, map, length, take, drop, get_or, Option, Ok, Err, inl, inr, refl, sym, ap, ◌∙◌, subst, arith, add-one, append_assoc, append-nil, length-append}
use Rattle.std.proofs.lemmas.List.{map-append, take-append-drop, take_all}
use Rattle.std.proofs.Math.Seq.{take-suc}
use Rattle.proxy_outside.specs.Reading.{Rose}
use Rattle.proxy_outside.specs.declared.identity.SessionNo.{SessionNo}
use Rattle.proxy_outside.specs.declared.identity.TenantId.{TenantId}
use Rattle.proxy_links.specs.Told.{Grows}
use Rattle.counted_desk.specs.Seats.{DeskId}
use Rattle.proxy_config.specs.declared.settings.Settings.{Settings}
use Rattle.proxy_hub.specs.Ports.{Port, Asks, Tells}
use Rattle.proxy_hub.specs.declared.command.HubCommand.{HubCommand}
use Rattle.proxy_hub.specs.declared.reply.HubReply.{HubReply}
use Rattle.proxy_hub.specs.declared.fault.HubFault.{HubFault}
use Rattle.pod_drain.specs.Watching.{Asked, commands, watch_with, rings_with, rings_of}
use Rattle.pod_drain.specs.Rounds.{Scene, scene, BeginsAs, FaultsBy, AskedAll, AskedSome, Counts, tells, plans_for, Whole, Broken}
use Rattle.pod_drain.specs.declared.fault.DrainFault.{DrainFault}
use Rattle.pod_drain.specs.declared.fault.DrainFault.TheVariants.{Hub, NoMemory}
use Rattle.pod_drain.proofs.Follow.{follow_none, follow_refused, follow_one, follow_more, commands_more, rings_more}

-- ---- one ask

-- want of memory before anything is asked
pub no_room : (wanted : List HubCommand) (s : Scene) → AskedSome wanted s s NoMemory
no_room wanted s = record { asked = []; follows = follow_none s; begins = (wanted, refl); fault = refl }

pub refused : (wanted : List HubCommand) (c : HubCommand) (w : List TenantId) (p q : Port) (rs : Option (List SessionNo)) (f : HubFault) → Asks p q c (Err f) → AskedSome wanted (scene w p rs) (scene w q rs) (Hub f)
refused wanted c w p q rs f h = record { asked = []; follows = follow_refused w p q rs h.0 h.1; begins = (wanted, refl); fault = (h.2, h.3) }

pub one : {A : Type 0} (Value : List Asked → A → Type 0) (c : HubCommand) (r : HubReply) (w v : List TenantId) (p q : Port) (rs ts : Option (List SessionNo)) (x : A) → Asks p q c (Ok r) → v ≡ watch_with w c r → Grows rs ts (rings_with c r) → Value ((c, r) ∷ []) x
    → AskedAll Value (c ∷ []) (scene w p rs) (scene v q ts) x
one Value c r w v p q rs ts x h e g value = record { asked = (c, r) ∷ []; follows = follow_one w v p q rs ts c r h.0 h.1 e g; all = refl; refusals = h.2; value = value }

-- ---- one after another

pub nothing : {A : Type 0} (Value : List Asked → A → Type 0) (s : Scene) (x : A) → Value [] x → AskedAll Value [] s s x
nothing Value s x value = record { asked = []; follows = follow_none s; all = refl; refusals = refl; value = value }

-- of the first ports and the last
fault_since : (f : DrainFault) (p q r : Port) → q.desk ≡ p.desk → q.refusals ≡ p.refusals → FaultsBy f q r → FaultsBy f p r
fault_since (Hub g) p q r d e h = (subst (λ n. Rose n r.refusals) e h.0, subst (λ (i : DeskId). Tells g i.most) d h.1)
fault_since NoMemory p q r d e h = h ∙ e

pub all_then : {A B C : Type 0} (V : List Asked → A → Type 0) (W : List Asked → B → Type 0) (X : List Asked → C → Type 0) (xs ys : List HubCommand) (s t u : Scene) (x : A) (y : B) (z : C)
    → ((a b : List Asked) → V a x → W b y → X (a ++ b) z) → AskedAll V xs s t x → AskedAll W ys t u y → AskedAll X (xs ++ ys) s u z
all_then V W X xs ys s t u x y z values p q = record {
  asked = p.asked ++ q.asked;
  follows = follow_more s t u p.asked q.asked p.follows q.follows;
  all = commands_more p.asked q.asked ∙ (λ i. p.all i ++ q.all i);
  refusals = q.refusals ∙ p.refusals;
  value = values p.asked q.asked p.value q.value;
}

pub some_then : {A : Type 0} (V : List Asked → A → Type 0) (xs ys : List HubCommand) (s t u : Scene) (x : A) (f : DrainFault) → AskedAll V xs s t x → AskedSome ys t u f → AskedSome (xs ++ ys) s u f
some_then V xs ys s t u x f p q = record {
  asked = p.asked ++ q.asked;
  follows = follow_more s t u p.asked q.asked p.follows q.follows;
  begins = (q.begins.0, ap (λ (cs : List HubCommand). cs ++ q.begins.0) (commands_more p.asked q.asked) ∙ append_assoc (commands p.asked) (commands q.asked) q.begins.0 ∙ (λ i. p.all i ++ q.begins.1 i));
  fault = fault_since f s.port t.port u.port p.follows.desk p.refusals q.fault;
}

pub some_of_more : (xs ys : List HubCommand) (s t : Scene) (f : DrainFault) → AskedSome xs s t f → AskedSome (xs ++ ys) s t f
some_of_more xs ys s t f p = record {
  asked = p.asked;
  follows = p.follows;
  begins = (p.begins.0 ++ ys, sym (append_assoc (commands p.asked) p.begins.0 ys) ∙ ap (λ (cs : List HubCommand). cs ++ ys) p.begins.1);
  fault = p.fault;
}

pub counts_more : (a b : List Asked) (m n : ℕ) → Counts a m → Counts b n → Counts (a ++ b) (min (m + n) (2 ^ 64 - 1))
counts_more a b m n p q =
    let len : length (rings_of (a ++ b)) ≡ length (rings_of a) + length (rings_of b) = ap length (rings_more a b) ∙ length-append (rings_of a) (rings_of b) in
    omega (arith, len, p, q)

-- ---- a round

pub broken_telling : (fresh : Option Settings) (s t : Scene) (f : DrainFault) → AskedSome (tells fresh) s t f → Broken fresh s t f
broken_telling fresh s t f p = record {
  told = p.asked;
  plans = [];
  follows = rw (append-nil p.asked) p.follows;
  begun = inl (p.begins, refl);
  fault = p.fault;
}

pub broken_planning : {A : Type 0} (V : List Asked → A → Type 0) (fresh : Option Settings) (s t u : Scene) (x : A) (f : DrainFault) → AskedAll V (tells fresh) s t x → AskedSome (plans_for t.watch) t u f → Broken fresh s u f
broken_planning V fresh s t u x f p q = record {
  told = p.asked;
  plans = q.asked;
  follows = follow_more s t u p.asked q.asked p.follows q.follows;
  begun = inr (p.all, subst (λ (w : List TenantId). BeginsAs q.asked (plans_for w)) p.follows.watch q.begins);
  fault = fault_since f s.port t.port u.port p.follows.desk p.refusals q.fault;
}

pub whole : {A : Type 0} (V : List Asked → A → Type 0) (fresh : Option Settings) (s t u : Scene) (x : A) (n : ℕ) → AskedAll V (tells fresh) s t x → AskedAll Counts (plans_for t.watch) t u n → Whole fresh s u n
whole V fresh s t u x n p q = record {
  told = p.asked;
  plans = q.asked;
  follows = follow_more s t u p.asked q.asked p.follows q.follows;
  tells = p.all;
  asks = q.all ∙ ap plans_for p.follows.watch;
  refusals = q.refusals ∙ p.refusals;
  count = q.value;
}

-- the same commands
pub told_as : {A : Type 0} (V : List Asked → A → Type 0) (xs ys : List HubCommand) (s t : Scene) (x : A) → xs ≡ ys → AskedAll V xs s t x → AskedAll V ys s t x
told_as V xs ys s t x e p = record { asked = p.asked; follows = p.follows; all = p.all ∙ e; refusals = p.refusals; value = p.value }

pub some_as : (xs ys : List HubCommand) (s t : Scene) (f : DrainFault) → xs ≡ ys → AskedSome xs s t f → AskedSome ys s t f
some_as xs ys s t f e p = record { asked = p.asked; follows = p.follows; begins = (p.begins.0, p.begins.1 ∙ e); fault = p.fault }

-- ---- a loop over items, each with its command

pub take_next : {A : Type 0} (c : A → HubCommand) (xs : List A) (i : ℕ) (d x : A) → i < length xs → x ≡ get_or xs i d → map c (take i xs) ++ c x ∷ [] ≡ map c (take (i + 1) xs)
take_next c xs i d x lt here = ap (λ y. map c (take i xs) ++ c y ∷ []) here ∙ sym (ap (λ n. map c (take n xs)) (add-one i) ∙ ap (map c) (take-suc xs i d lt) ∙ map-append c (take i xs) (get_or xs i d ∷ []))

pub take_split : {A : Type 0} (c : A → HubCommand) (xs : List A) (i : ℕ) (d x : A) → i < length xs → x ≡ get_or xs i d → (map c (take i xs) ++ c x ∷ []) ++ map c (drop (i + 1) xs) ≡ map c xs
take_split c xs i d x lt here = ap (λ (ys : List HubCommand). ys ++ map c (drop (i + 1) xs)) (take_next c xs i d x lt here) ∙ sym (map-append c (take (i + 1) xs) (drop (i + 1) xs)) ∙ ap (map c) (take-append-drop (i + 1) xs)

pub take_end : {A : Type 0} (c : A → HubCommand) (xs : List A) (i : ℕ) → length xs ≤ i → map c (take i xs) ≡ map c xs
take_end c xs i le = ap (map c) (take_all i xs le)

-- ---- who was rung

pub counts_none : Counts [] 0
unfolding rings_of
counts_none = refl
