-- Turn after turn.
use Rattle.std.proofs.Common.{◌≡◌, [], ◌∷◌, ◌++◌, Option, Some, None, refl, subst, ◌∙◌, arith}
use Rattle.proxy_outside.specs.declared.identity.SessionNo.{SessionNo}
use Rattle.session_trace.specs.Running.{Now}
use Rattle.session_rounds.specs.Scenes.{Scene, SameLink}
use Rattle.session_rounds.specs.Turns.{Turns, Ran}
use Rattle.session_rounds.specs.Running.{Runs, RunsOn, RanTo}
use Rattle.session_rounds.specs.declared.rounds.Stop.{Stop}
use Rattle.session_rounds.specs.declared.rounds.Stop.TheVariants as stop

pub same_same : (one two three : Now) → SameLink one two → SameLink two three → SameLink one three
same_same one two three p q = record {
  read = let x = p.read in let y = q.read in omega (arith, x, y);
  given = let x = p.given in let y = q.given in omega (arith, x, y);
  sent = let x = p.sent in let y = q.sent in omega (arith, x, y);
  got = let x = p.got in let y = q.got in omega (arith, x, y);
  tx = q.tx ∙ p.tx;
  rx = q.rx ∙ p.rx;
}

pub runs_none : (n : SessionNo) (s : Scene) → RunsOn n s s
runs_none n s = record {
  same = record { read = omega arith; given = omega arith; sent = omega arith; got = omega arith; tx = refl; rx = refl };
  tells = λ t. t;
  adds = λ b o links rs st a t. record { earlier = []; plain = tt; stands = st; asked = a };
}

runs_more : (n : SessionNo) (one two three : Scene) → RunsOn n one two → Turns n two three None → RunsOn n one three
runs_more n one two three p q = record {
  same = same_same one.now two.now three.now p.same q.ran;
  tells = λ t. p.tells (q.tells t);
  adds = λ b o links rs st a t.
      let l = p.adds b o links rs st a (q.tells t) in
      let g = q.adds b o links (l.earlier ++ rs) l.stands l.asked t in
      record { earlier = g.newest ∷ l.earlier; plain = ((g.why, g.why', g.run), l.plain); stands = g.stands; asked = g.asked };
}

ran_to : (n : SessionNo) (one two three : Scene) (s : Stop) → SameLink one.now two.now → Ran two three (Some s) → RanTo one three s
ran_to n one two three (stop.Ended why why') p r = record { last = two.now; board = two.board; before = p; runs = r.0; own = r.1 }
ran_to n one two three (stop.MoveTo place) p r = same_same one.now two.now three.now p r

runs_stop : (n : SessionNo) (one two three : Scene) (s : Stop) → RunsOn n one two → Turns n two three (Some s) → Runs n one three s
runs_stop n one two three s p q = record {
  ran = ran_to n one two three s p.same q.ran;
  tells = λ t. p.tells (q.tells t);
  adds = λ b o links rs st a t.
      let l = p.adds b o links rs st a (q.tells t) in
      record { earlier = l.earlier; plain = l.plain; last = two.now; adds = q.adds b o links (l.earlier ++ rs) l.stands l.asked t };
}

-- by what a turn gave back

pub goes_on : (n : SessionNo) (one two three : Scene) (given : Option Stop) → given ≡ None → RunsOn n one two → Turns n two three given → RunsOn n one three
goes_on n one two three given e p q = runs_more n one two three p (subst (λ (v : Option Stop). Turns n two three v) e q)

pub stops : (n : SessionNo) (one two three : Scene) (given : Option Stop) (s : Stop) → given ≡ Some s → RunsOn n one two → Turns n two three given → Runs n one three s
stops n one two three given s e p q = runs_stop n one two three s p (subst (λ (v : Option Stop). Turns n two three v) e q)
