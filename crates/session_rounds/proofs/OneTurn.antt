-- What one turn comes to.
use Rattle.std.proofs.Common.{◌≡◌, ℕ, Bool, true, false, List, ◌∷◌, Some, None, sym, subst, ◌∙◌}
use Rattle.proxy_hub.specs.Ports.{Port}
use Rattle.proxy_links.specs.Links.{Links}
use Rattle.proxy_outside.specs.declared.identity.SessionNo.{SessionNo}
use Rattle.proxy_outside.specs.declared.place.Place.{Place}
use Rattle.session_legs.specs.declared.side.LegEnd.{LegEnd}
use Rattle.session_legs.specs.declared.side.LegEnd.TheVariants.{Parked}
use Rattle.session_trace.specs.Looks.{IsLook}
use Rattle.session_trace.specs.Running.{Now, Board, RunsRound}
use Rattle.session_trace.specs.Trace.{Round}
use Rattle.session_round.specs.Standing.{Begin, Stands}
use Rattle.session_round.specs.Ending.{Went, KeepsTrace, TellsBefore}
use Rattle.session_rounds.specs.Asking.{AimsAt, AimsNowhere}
use Rattle.session_rounds.specs.Scenes.{Scene, scene, SameLink}
use Rattle.session_rounds.specs.Turns.{is_look, DueBy, IsOwnEnd, Turns}
use Rattle.session_rounds.specs.declared.rounds.Stop.TheVariants as stop
use Rattle.session_rounds.proofs.Deciding.{look_is, no_look, due_there, not_due}
use Rattle.session_rounds.proofs.Asked.{nothing_asked, stays_out, asked_for}

pub same_link : (old new : Now) (board board' : Board) (why why' : LegEnd) → RunsRound old new board board' why why' → SameLink old new
same_link old new board board' why why' r = record {
  read = r.request.moves.read.faults;
  given = r.response.moves.wrote.faults;
  sent = r.request.moves.wrote.faults;
  got = r.response.moves.read.faults;
  tx = r.request.moves.wrote.link;
  rx = r.response.moves.read.link;
}

pub own_first : (why why' : LegEnd) → is_look why ≡ false → IsOwnEnd why why'
own_first why why' e = λ l l'. no_look why e l

pub own_second : (why why' : LegEnd) → is_look why' ≡ false → IsOwnEnd why why'
own_second why why' e = λ l l'. no_look why' e l'

parked_looks : (r : Round) (why : LegEnd) (end : LegEnd) → end ≡ why → end ≡ Parked → IsLook why
parked_looks r why end e p = subst IsLook (sym p ∙ e) tt

module _ (n : SessionNo) (old : Scene) (now : Now) (board : Board) (why why' : LegEnd) (r : RunsRound old.now now old.board board why why') (tells : TellsBefore old.now now) (keeps : KeepsTrace old.now now old.board board why why') where
  pub finished : IsOwnEnd why why' → Turns n old (scene now board old.port old.unbooked) (Some (stop.Ended why why'))
  finished own = record {
    ran = (r, own);
    tells = tells;
    adds = λ b o links rs s a t.
        let w = keeps b links rs s t in
        record {
          newest = w.newest;
          run = w.run;
          ends = w.ends;
          asked = nothing_asked n o old.port old.unbooked w.newest rs w.run.attempt
              (λ d. own (parked_looks w.newest why w.newest.request w.run.request d.request) (parked_looks w.newest why' w.newest.response w.run.response d.response)) a;
        };
  }

  module _ (look : is_look why ≡ true) (look' : is_look why' ≡ true) (due : Bool) (by : DueBy now.request now.response why why' due) where
    stood : (b : Begin) (links : Links) (rs : List Round) → (w : Went b old.now now links board why why' rs) → Stands b now links board (w.newest ∷ rs)
    stood b links rs w = w.stands (look_is why look) (look_is why' look')

    pub undue : due ≡ false → Turns n old (scene now board old.port old.unbooked) None
    undue e = record {
      ran = same_link old.now now old.board board why why' r;
      tells = tells;
      adds = λ b o links rs s a t.
          let w = keeps b links rs s t in
          record {
            newest = w.newest;
            why = why;
            why' = why';
            run = w.run;
            stands = stood b links rs w;
            asked = nothing_asked n o old.port old.unbooked w.newest rs w.run.attempt (not_due b now links board w.newest rs why why' w.run (stood b links rs w) due by e) a;
          };
    }

    pub nowhere : due ≡ true → (port : Port) (u : ℕ) → AimsNowhere n old.port port old.unbooked u → Turns n old (scene now board port u) None
    nowhere e port u aim = record {
      ran = same_link old.now now old.board board why why' r;
      tells = tells;
      adds = λ b o links rs s a t.
          let w = keeps b links rs s t in
          record {
            newest = w.newest;
            why = why;
            why' = why';
            run = w.run;
            stands = stood b links rs w;
            asked = stays_out n o old.port port old.unbooked u w.newest rs w.run.attempt (due_there b now links board w.newest rs why why' w.run (stood b links rs w) due by e) aim a;
          };
    }

    pub aimed : due ≡ true → (place : Place) (port : Port) (u : ℕ) → AimsAt n place old.port port old.unbooked u → Turns n old (scene now board port u) (Some (stop.MoveTo place))
    aimed e place port u aim = record {
      ran = same_link old.now now old.board board why why' r;
      tells = tells;
      adds = λ b o links rs s a t.
          let w = keeps b links rs s t in
          let d = due_there b now links board w.newest rs why why' w.run (stood b links rs w) due by e in
          record {
            newest = w.newest;
            run = record { attempt = w.run.attempt; ask = w.run.ask; answer = w.run.answer; trials = w.run.trials; next = w.run.next; request = d.request; response = d.response };
            stands = stood b links rs w;
            due = d;
            asked = asked_for n place o old.port port old.unbooked u rs aim a;
          };
    }
