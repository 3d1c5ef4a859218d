-- What holds where a session begins.
use Rattle.std.proofs.Common.{◌≡◌, ◌+◌, ◌≤◌, ◌<◌, ℕ, List, inl, inr, Option, None, refl, sym, ap, subst, ◌∙◌, arith}
use Rattle.std.specs.Prelude.{codes, Ok}
use Rattle.pgw_messages.specs.Params.{value_of}
use Rattle.pgw_messages.specs.Startup.{Fits}
use Rattle.proxy_outside.specs.Reading.{Origin}
use Rattle.proxy_outside.specs.Writing.{Target}
use Rattle.proxy_outside.specs.declared.addr.Addr.{Addr}
use Rattle.proxy_hub.specs.Ports.{Port}
use Rattle.proxy_links.specs.Links.{Links}
use Rattle.session_entry.specs.Receiving.{Receives, Becomes}
use Rattle.session_entry.specs.declared.entry.Received.{Received}
use Rattle.session_entry.specs.declared.entry.Received.TheVariants.{Session}
use Rattle.session_greeting.specs.declared.greeting.Limits.{Limits}
use Rattle.session_opening.specs.Linking.{Around}
use Rattle.session_opening.specs.Opening.{Opens, opened}
use Rattle.session_opening.specs.declared.opening.Opened.{Opened}
use Rattle.session_opening.specs.declared.opening.Opened.TheVariants as ready
use Rattle.session_opening.specs.declared.opening.Session as ready_session
use Rattle.proxy_session.specs.Calling.{Shown, shown, Outcome, Behind, Serves}
use Rattle.session_door.specs.Entering.{Enters, Came}
use Rattle.session_door.specs.declared.door.Entry.{Entry}
use Rattle.session_door.specs.declared.door.Entry.TheVariants as came
use Rattle.route_laws.proofs.Answered.{routes_fit, routes_tokenless}
use Rattle.startup_route.specs.Entrances.{entrance}
use Rattle.startup_route.specs.declared.step.DoorStep.TheVariants as step
use Rattle.startup_route.specs.declared.step.Route.{Route}

-- what is known of a route that came
pub record Entered (patience : ℕ) (route : Route) (waited : ℕ) : Type 0 where
  pub fits : Fits route.params
  pub plain : value_of (codes "crdb:session_revival_token_base64") route.params ≡ None
  pub patient : waited + 1 ≤ patience

known : (patience : ℕ) (route route' : Route) (waited waits : ℕ) (fed : List ℕ) → Session route waited ≡ Session route' waits → (entrance fed).step ≡ step.Ready route' → waits < patience → Entered patience route waited
known patience route route' waited waits fed is ready few =
    let same : route ≡ route' = cc in
    let count : waited ≡ waits = cc in
    let there = ready ∙ ap step.Ready (sym same) in
    record { fits = routes_fit fed route there; plain = routes_tokenless fed route there; patient = omega (arith, count, few) }

module _ (peer : Addr) (patience : ℕ) (old new : Origin) (k l : Target) (hub hub' : Port) (links links' : Links) (route : Route) (waited : ℕ) where
  by_entry : (entry : Entry) (between : Target) → Enters patience old new k between entry → Becomes peer entry between l hub hub' links links' (Session route waited) → Entered patience route waited
  by_entry (came.Session route' waits) between e b = known patience route route' waited waits e.fed b.0 e.came.0 e.came.2
  by_entry (came.Cancel key) between e (asks, inl x) = absurd (let y = x.0 in cc)
  by_entry (came.Cancel key) between e (asks, inr (inl x)) = absurd (let y = x.0 in cc)
  by_entry (came.Cancel key) between e (asks, inr (inr x)) = absurd (let y = x.0 in cc)
  by_entry (came.Refused fault) between e (inl x, nothing) = absurd (let y = x.0 in cc)
  by_entry (came.Refused fault) between e (inr x, nothing) = absurd (let y = x.0 in cc)
  by_entry (came.Cut c) between e b = absurd (let y = b.0 in cc)

  pub entered : Receives peer patience old new k l hub hub' links links' (Session route waited) → Entered patience route waited
  entered r = by_entry r.entry r.between r.enters r.becomes

  pub entered_so : (given : Received) → given ≡ Session route waited → Receives peer patience old new k l hub hub' links links' given → Entered patience route waited
  entered_so given is r = entered (subst (λ (v : Received). Receives peer patience old new k l hub hub' links links' v) is r)

-- an opening whose session is ready, and its run
pub served_ready : {T R : Type 0} (target : T → Target) (origin : R → Origin) (given : Opened T R) (s : ready_session.Session T R) (peer : Addr) (route : Route) (waited : ℕ) (limits : Limits) (old new : Shown) (e : Outcome) (around : Around) (words : Option (List ℕ))
    → given ≡ ready.Ready s → Opens peer route waited limits old.around around old.words words (opened target origin given)
    → Behind route.params limits.patience (shown around words old.board) new e (opened target origin (ready.Ready s)) → Serves peer route waited limits old new e
served_ready {T} {R} target origin given s peer route waited limits old new e around words is o b = record {
  around = around;
  words = words;
  opened = opened target origin (ready.Ready s);
  opens = subst (λ (v : Opened T R). Opens peer route waited limits old.around around old.words words (opened target origin v)) is o;
  behind = b;
}
