-- What the command makes of the words.
use Rattle.std.proofs.Common.{◌≡◌, ◌≢◌, ◌⊎◌, inl, inr, List, [], ◌∷◌, true, Some, None, refl, sym, ap, ◌∙◌, subst}
use Rattle.clap.specs.Walk.{Row, Text, rows_of}
use Rattle.clap.specs.Simple.{App, HasMatchesOf, app_of, is_simple, matches_of}
use Rattle.clap.specs.Matches.{found_of}
use Rattle.clap.specs.Kinds.{Kinds, IsAmong}
use Rattle.clap.specs.Faults.{fault_of, is_simple_and_free}
use Rattle.clap.specs.declared.builder.command.Command.{Command}
use Rattle.clap.specs.declared.parser.matches.ArgMatches.{ArgMatches}
use Rattle.clap.specs.declared.error.kind.ErrorKind.{ErrorKind}
use Rattle.clap.specs.declared.error.kind.ErrorKind.TheVariants.{OutOfMemory}
use Rattle.clap.proofs.OnLiterals.{clap_on_literals}
use Rattle.server_console.specs.Asking.{serve_app, rows_by, rows_given}

simple : is_simple serve_app ≡ true
unfolding clap_on_literals
simple = refl

free : is_simple_and_free serve_app ≡ true
unfolding clap_on_literals
free = refl

pub taken : (c : Command) (words : List Text) (m : ArgMatches) → app_of c ≡ serve_app → (is_simple_and_free (app_of c) ≡ true → fault_of (app_of c) words ≡ [])
    → HasMatchesOf (app_of c) words m → Some (rows_of (found_of m)) ≡ rows_given words
unfolding rows_given
taken c words m e none h =
    let no_fault : fault_of serve_app words ≡ [] = ap (λ (a : App). fault_of a words) (sym e) ∙ none (ap is_simple_and_free e ∙ free) in
    let rows : rows_of (found_of m) ≡ matches_of serve_app words = (h (ap is_simple e ∙ simple)).0 ∙ ap (λ (a : App). matches_of a words) e in
    ap Some rows ∙ ap (λ (k : Kinds). rows_by k (matches_of serve_app words)) (sym no_fault)

at_fault : (k : ErrorKind) (kinds : Kinds) (rows : List Row) → IsAmong k kinds → None ≡ rows_by kinds rows
at_fault k [] rows h = absurd h
at_fault k (x ∷ kinds) rows h = refl

pub refused : (c : Command) (words : List Text) (k : ErrorKind) → app_of c ≡ serve_app → (is_simple_and_free (app_of c) ≡ true → (k ≡ OutOfMemory) ⊎ IsAmong k (fault_of (app_of c) words))
    → k ≢ OutOfMemory → None ≡ rows_given words
unfolding rows_given
refused c words k e why other = by (why (ap is_simple_and_free e ∙ free))
  where
    by : (k ≡ OutOfMemory) ⊎ IsAmong k (fault_of (app_of c) words) → None ≡ rows_by (fault_of serve_app words) (matches_of serve_app words)
    by (inl h) = absurd (other h)
    by (inr h) = at_fault k (fault_of serve_app words) (matches_of serve_app words) (subst (λ (a : App). IsAmong k (fault_of a words)) e h)
