-- What a client is told whose opening came to no session, and the call that ends so.
use Rattle.std.proofs.Common.{◌≡◌, ◌⊎◌, ℕ, ◌≤◌, Bool, true, false, List, [], ◌∷◌, ◌++◌, take, replicate, Option, Some, None, Result, Ok, Err, option_map, inl, inr, refl, sym, ap, ◌∙◌, subst, arith, append-nil}
use Rattle.pgw_frames.specs.Frames.{IsBytes, Begins, frame_bytes}
use Rattle.pgw_messages.specs.declared.params.Pair.{Pair}
use Rattle.proxy_outside.specs.Reading.{Rose}
use Rattle.proxy_outside.specs.Writing.{Target}
use Rattle.proxy_outside.specs.declared.addr.Addr.{Addr}
use Rattle.proxy_outside.specs.declared.identity.ClientKey.{ClientKey}
use Rattle.proxy_links.specs.Links.{Links, LinkCounts, LinkRecord}
use Rattle.proxy_links.specs.Told.{push, Grows}
use Rattle.link_io.specs.Writing.{WritesAll}
use Rattle.link_io.proofs.Parts.{push_push, push_nil}
use Rattle.startup_route.specs.Rejections.{frame_of}
use Rattle.startup_route.specs.declared.rejection.Rejection.{Rejection}
use Rattle.startup_route.specs.declared.step.Route.{Route}
use Rattle.session_trace.specs.Calls.{Call}
use Rattle.session_trace.specs.Fits.{FitsCall, FitsUnopened}
use Rattle.session_trace.specs.Forwarded.{EndsInTerminate}
use Rattle.session_trace.specs.Records.{record_of}
use Rattle.session_trace.specs.Relayed.{IsGiven, Passes, Rejects}
use Rattle.session_trace.specs.Trace.{Opening}
use Rattle.session_asks.specs.Asks.{answered, refused, moments_in, words_in}
use Rattle.link_io.specs.Reading.{RoseBy}
use Rattle.proxy_hub.specs.Ports.{Port}
use Rattle.session_asks.specs.Admission.{AsksHub}
use Rattle.session_asks.specs.Fits.{Outside}
use Rattle.session_greeting.specs.declared.greeting.Limits.{Limits}
use Rattle.session_opening.specs.Endings.{rejection_of, TellsOf}
use Rattle.session_opening.specs.Linking.{Around}
use Rattle.session_opening.specs.Opening.{Ready, Opens, Closes, LetsIn, ended}
use Rattle.session_opening.specs.declared.ending.Ending.{Ending}
use Rattle.session_opening.specs.declared.ending.Ending.TheVariants as why
use Rattle.session_opening.specs.declared.opening.Ended.{Ended}
use Rattle.session_opening.specs.Shown.{call_of, FitsEnd, IsCounted, GotBytes, is_auth_refused, is_left}
use Rattle.session_opening.specs.ClosedCalls.{EndFits}
use Rattle.session_greeting.proofs.Went.{begins_all, begins_take, frames_none}
use Rattle.session_opening.proofs.Linked.{Bytes}
use Rattle.session_opening.proofs.Shut.{Shut, ShowsTrace, Asked, shut}

-- ---- what the client is told

-- the rejection, or a part of it where the sink failed
record ToldPart (x : Rejection) (k l : Target) (told : List ℕ) : Type 0 where
  begins : Begins told (frame_bytes (frame_of x))
  all : Rose k.faults l.faults ⊎ (told ≡ frame_bytes (frame_of x))

abbrev ToldBy : Ending → Ending → Target → Target → List ℕ → Type 0
ToldBy e w k l told =
    ((rejection_of e ≡ None) × (told ≡ []) × (w ≡ e))
    ⊎ ((x : Rejection) × (rejection_of e ≡ Some x) × (((w ≡ e) × ToldPart x k l told) ⊎ ((w ≡ why.NoMemory) × (told ≡ []))))

record Told (e w : Ending) (k l : Target) : Type 0 where
  told : List ℕ
  contents : l.contents ≡ push k.contents told
  faults : k.faults ≤ l.faults
  by : ToldBy e w k l told

told_nothing : (e w : Ending) (k l : Target) → l ≡ k → ToldBy e w k l [] → Told e w k l
told_nothing e w k l same by = record {
  told = [];
  contents = ap (λ (t : Target). t.contents) same ∙ sym (push_nil k.contents);
  faults = let f = ap (λ (t : Target). t.faults) same in omega arith;
  by = by;
}

told_part : (x : Rejection) (e w : Ending) (k l : Target) (whole : Bool) → rejection_of e ≡ Some x → w ≡ e → WritesAll whole k l (frame_bytes (frame_of x)) → Told e w k l
told_part x e w k l true is same wrote = record {
  told = frame_bytes (frame_of x);
  contents = wrote.contents;
  faults = wrote.faults;
  by = inr (x, is, inl (same, record { begins = begins_all (frame_bytes (frame_of x)); all = inr refl }));
}
told_part x e w k l false is same some = record {
  told = take some.count (frame_bytes (frame_of x));
  contents = some.wrote.contents;
  faults = some.wrote.faults;
  by = inr (x, is, inl (same, record { begins = begins_take some.count (frame_bytes (frame_of x)); all = inl some.rose }));
}

told_of : (e w : Ending) (k l : Target) (o : Option Rejection) → rejection_of e ≡ o → TellsOf o e k l w → Told e w k l
told_of e w k l None is (same, still) = told_nothing e w k l still (inl (is, refl, same))
told_of e w k l (Some x) is (inl (same, (whole, wrote))) = told_part x e w k l whole is same wrote
told_of e w k l (Some x) is (inr (lacking, still)) = told_nothing e w k l still (inr (x, is, inr (lacking, refl)))

-- ---- what that leaves as it was

never_auth : (e : Ending) (x : Rejection) → rejection_of e ≡ Some x → is_auth_refused e ≡ false
never_auth (why.Refused cause) x is = refl
never_auth why.DialFault x is = refl
never_auth (why.JournalFull most) x is = refl
never_auth (why.AuthRefused fields) x is = absurd (cc)
never_auth why.Left x is = refl
never_auth (why.PodCut c) x is = refl
never_auth (why.ClientCut c) x is = refl
never_auth why.NoMemory x is = refl

never_left : (e : Ending) (x : Rejection) → rejection_of e ≡ Some x → is_left e ≡ false
never_left (why.Refused cause) x is = refl
never_left why.DialFault x is = refl
never_left (why.JournalFull most) x is = refl
never_left (why.AuthRefused fields) x is = refl
never_left why.Left x is = absurd (cc)
never_left (why.PodCut c) x is = refl
never_left (why.ClientCut c) x is = refl
never_left why.NoMemory x is = refl

same_auth : (e w : Ending) (k l : Target) (told : List ℕ) → ToldBy e w k l told → is_auth_refused e ≡ is_auth_refused w
same_auth e w k l told (inl (none, nothing, same)) = ap is_auth_refused (sym same)
same_auth e w k l told (inr (x, is, inl (same, part))) = ap is_auth_refused (sym same)
same_auth e w k l told (inr (x, is, inr (lacking, nothing))) = never_auth e x is ∙ ap is_auth_refused (sym lacking)

was_left : (e w : Ending) (k l : Target) (told : List ℕ) → ToldBy e w k l told → is_left w ≡ true → is_left e ≡ true
was_left e w k l told (inl (none, nothing, same)) left = ap is_left (sym same) ∙ left
was_left e w k l told (inr (x, is, inl (same, part))) left = ap is_left (sym same) ∙ left
was_left e w k l told (inr (x, is, inr (lacking, nothing))) left = absurd (let l = ap is_left (sym lacking) ∙ left in cc)

-- ---- what the client was given in all

-- a rejection, where nothing of a greeting was passed on
rejected : (c : Call) (x : Rejection) (e w : Ending) (k l : Target) (told : List ℕ) → c.why.rejection ≡ option_map frame_of (rejection_of w) → rejection_of e ≡ Some x → (Rose k.faults l.faults → c.client_faults ≡ true)
    → ((w ≡ e) × ToldPart x k l told) ⊎ ((w ≡ why.NoMemory) × (told ≡ [])) → Rejects c c.why.rejection told
rejected c x e w k l told rejects is faulted (inl (same, part)) =
    let some : c.why.rejection ≡ Some (frame_of x) = rejects ∙ ap (λ (y : Ending). option_map frame_of (rejection_of y)) same ∙ ap (option_map frame_of) is in
    subst (λ o. Rejects c o told) (sym some) (part.begins, elim part.all [ inl rose ↦ inl (faulted rose) | inr all ↦ inr all ])
rejected c x e w k l told rejects is faulted (inr (lacking, nothing)) =
    let none : c.why.rejection ≡ None = rejects ∙ ap (λ (y : Ending). option_map frame_of (rejection_of y)) lacking in
    subst (λ o. Rejects c o told) (sym none) nothing

-- where no link was opened
given_unopened : (c : Call) (e w : Ending) (k l : Target) (told : List ℕ) → c.given ≡ replicate c.says 78 ++ ([] ++ told) → c.why.rejection ≡ option_map frame_of (rejection_of w) → ((x : Rejection) → rejection_of e ≡ Some x → Rose k.faults l.faults → c.client_faults ≡ true)
    → ToldBy e w k l told → IsGiven c (λ body. ⊥) (Rejects c c.why.rejection)
given_unopened c e w k l told is rejects faulted (inl (none, nothing, same)) =
    let no_text : c.why.rejection ≡ None = rejects ∙ ap (λ (y : Ending). option_map frame_of (rejection_of y)) same ∙ ap (option_map frame_of) none in
    record { body = told; is = is; either = inr (subst (λ o. Rejects c o told) (sym no_text) nothing) }
given_unopened c e w k l told is rejects faulted (inr (x, some, how)) = record { body = told; is = is; either = inr (rejected c x e w k l told rejects some (faulted x some) how) }

-- where one was
given_opened : (c : Call) (p : List Pair) (o : Opening) (e w : Ending) (k l : Target) (taken given told : List ℕ) → c.given ≡ replicate c.says 78 ++ (given ++ told) → c.why.rejection ≡ option_map frame_of (rejection_of w)
    → c.why.auth_refused ≡ is_auth_refused w → ((x : Rejection) → rejection_of e ≡ Some x → Rose k.faults l.faults → c.client_faults ≡ true) → Bytes c.key p o e taken given → ((x : Rejection) → rejection_of e ≡ Some x → given ≡ [])
    → ToldBy e w k l told → IsGiven c (Passes c o []) (Rejects c c.why.rejection)
given_opened c p o e w k l taken given told is rejects auth faulted b quiet (inl (none, nothing, same)) =
    let all : given ++ told ≡ given = ap (λ (v : List ℕ). given ++ v) nothing ∙ append-nil given in
    record {
      body = given;
      is = is ∙ ap (λ (v : List ℕ). replicate c.says 78 ++ v) all;
      either = inl (b.passes, λ refused. inr (b.auth (ap is_auth_refused (sym same) ∙ sym auth ∙ refused)));
    }
given_opened c p o e w k l taken given told is rejects auth faulted b quiet (inr (x, some, how)) = record {
  body = told;
  is = is ∙ ap (λ (v : List ℕ). replicate c.says 78 ++ (v ++ told)) (quiet x some);
  either = inr (rejected c x e w k l told rejects some (faulted x some) how);
}

-- ---- the call

fits_unopened : (p : List Pair) (key : ClientKey) (patience says : ℕ) (faulted : Bool) (records : List LinkRecord) (taken told : List ℕ) (e w : Ending) (k l : Target) → records ≡ [] → ((x : Rejection) → rejection_of e ≡ Some x → Rose k.faults l.faults → faulted ≡ true) → ToldBy e w k l told
    → FitsUnopened (call_of p key patience says faulted taken ([] ++ told) records w)
fits_unopened p key patience says faulted records taken told e w k l none rose by = record {
  records = none;
  moves = refl;
  starved = refl;
  given = given_unopened (call_of p key patience says faulted taken ([] ++ told) records w) e w k l told refl refl rose by;
}

fits_opened : (p : List Pair) (key : ClientKey) (patience says : ℕ) (faulted : Bool) (records : List LinkRecord) (taken given told : List ℕ) (o : Opening) (counts : LinkCounts) (e w : Ending) (k l : Target) → IsBytes o.got
    → records ≡ record_of o counts (o.packet ++ o.asked) o.got ∷ [] → Bytes key p o e taken given → ((x : Rejection) → rejection_of e ≡ Some x → given ≡ []) → ((x : Rejection) → rejection_of e ≡ Some x → Rose k.faults l.faults → faulted ≡ true) → ToldBy e w k l told
    → FitsCall (call_of p key patience says faulted taken (given ++ told) records w) (record { first = o; rounds = []; counts = counts })
fits_opened p key patience says faulted records taken given told o counts e w k l bytes one b quiet rose by = record {
  records = one ∙ ap (λ (v : List ℕ). record_of o counts (o.packet ++ o.asked) v ∷ []) (sym (append-nil o.got));
  moves = omega arith;
  held = inr (record { early = []; late = []; parts = refl; few = omega arith; none_early = frames_none; none_at_end = λ e. absurd (cc) });
  first = b.opens;
  rounds = tt;
  forwards = record {
    begins = subst (λ (v : List ℕ). Begins v taken) (sym (append-nil o.asked)) b.forwards;
    at_bye = λ left. subst (λ (v : List ℕ). (v ≡ taken) ⊎ EndsInTerminate v) (sym (append-nil o.asked)) (b.bye (was_left e w k l told by left));
  };
  given = given_opened (call_of p key patience says faulted taken (given ++ told) records w) p o e w k l taken given told refl refl refl rose b quiet by;
  attempts = tt;
  starved = omega arith;
  sides = tt;
  holds = tt;
  bytes = bytes;
}

fits_end : (p : List Pair) (key : ClientKey) (patience says : ℕ) (faulted : Bool) (records : List LinkRecord) (taken given told : List ℕ) (opened : Option Opening) (counts : LinkCounts) (e w : Ending) (k l : Target) → GotBytes opened
    → ShowsTrace key p opened counts records taken given e → ((x : Rejection) → rejection_of e ≡ Some x → given ≡ []) → ((x : Rejection) → rejection_of e ≡ Some x → Rose k.faults l.faults → faulted ≡ true) → ToldBy e w k l told
    → FitsEnd opened counts (call_of p key patience says faulted taken (given ++ told) records w)
fits_end p key patience says faulted records taken given told None counts e w k l bytes (none, nothing) quiet rose by =
    subst (λ (v : List ℕ). FitsUnopened (call_of p key patience says faulted taken (v ++ told) records w)) (sym nothing) (fits_unopened p key patience says faulted records taken told e w k l none rose by)
fits_end p key patience says faulted records taken given told (Some o) counts e w k l bytes (one, b) quiet rose by =
    fits_opened p key patience says faulted records taken given told o counts e w k l bytes one b quiet rose by

-- ---- all of it

closed : (peer : Addr) (route : Route) (limits : Limits) (old between new : Around) (words words' : Option (List ℕ)) (came e : Ended) (w : Ending) → Shut route.params (Asked peer route came) old between words words' came → Told came.why w between.client_out new.client_out
    → new ≡ record between { client_out = new.client_out } → e ≡ ended came.session came.key w → EndFits peer route limits old new words words' e
closed peer route limits old between new words words' came e w s t others is =
    let links : new.links ≡ between.links = ap (λ (x : Around). x.links) others in
    let hub : new.hub ≡ between.hub = ap (λ (x : Around). x.hub) others in
    let outside : Outside = record { asked = answered s.asks; refused_before = old.hub.refusals; refused_now = new.hub.refusals; dials = s.dials; moments = moments_in s.asks; words = words_in s.asks } in
    subst (λ (x : Ended). EndFits peer route limits old new words words' x) (sym is) (record {
      outside = outside;
      opened = s.opened;
      key = s.key;
      is_key = s.is_key;
      counts = s.counts;
      taken = s.taken;
      given = s.given ++ t.told;
      records = s.records;
      shows = record {
        around_hub = record {
          desk = ap (λ (x : Port). x.desk) hub ∙ s.grown.asked.desk;
          asked = ap (λ (x : Port). x.asked) hub ∙ s.grown.asked.listed;
          refused_before = refl;
          refused_now = refl;
          dials = subst (λ (x : Links). Grows old.links.dials x.dials s.dials) (sym links) s.grown.dialed;
          told = ap (λ (x : Links). x.records) links ∙ s.records_are;
        };
        moments = subst (λ (x : Around). Grows old.moments x.moments (moments_in s.asks)) (sym others) s.grown.moments;
        words_are = s.grown.drawn;
        taken_is = ap (λ (x : Around). x.client_in.taken) others ∙ s.taken_is;
        given_is = t.contents ∙ ap (λ (v : Option (List ℕ)). push v t.told) s.given_is ∙ push_push old.client_out.contents s.given t.told;
      };
      asks = record {
        asks = s.asks;
        asked = record { listed = refl; missing = subst (λ (x : Port). RoseBy old.hub.refusals (refused s.asks) x.refusals) (sym hub) s.grown.asked.missing };
        first_dials = s.dials;
        asks_hub = subst (λ (b : Bool). AsksHub (record { peer = peer; tenant = route.tenant; session = came.session; key = came.key; auth_refused = b }) s.dials s.opened [] s.asks)
            (same_auth came.why w between.client_out new.client_out t.told t.by) s.fitting;
        dials = sym (append-nil s.dials);
        dials_it = tt;
        moments = refl;
        later_words = [];
        words = sym (append-nil (words_in s.asks));
        draws = refl;
      };
      trace = λ says faulted counted bytes rose.
          fits_end route.params s.key limits.patience says faulted s.records s.taken s.given t.told s.opened s.counts came.why w between.client_out new.client_out bytes
          (s.trace (subst (λ (x : Links). IsCounted old.links x) links counted)) (λ x some. (s.quiet x some).0)
          (λ x some r. rose (let q = (s.quiet x some).1 in omega arith)) t.by;
    })

pub end_fits : (peer : Addr) (route : Route) (waited : ℕ) (limits : Limits) (old new : Around) (words words' : Option (List ℕ)) (e : Ended) → Opens peer route waited limits old new words words' (Err e) → EndFits peer route limits old new words words' e
end_fits peer route waited limits old new words words' e o = by_came o.came o.lets_in o.closes
  where
    by_came : (came : Result Ready Ended) → LetsIn peer route waited limits old o.between words words' came → Closes o.between new came (Err e) → EndFits peer route limits old new words words' e
    by_came (Ok ready) l c = absurd (let x = c.0 in cc)
    by_came (Err came) l (w, tells, is, others) =
        closed peer route limits old o.between new words words' came e w (shut peer route waited limits old o.between words words' came l)
        (told_of came.why w o.between.client_out new.client_out (rejection_of came.why) refl tells) others (cc)
