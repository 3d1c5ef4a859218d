-- Whatever an attempt came to.
use Rattle.std.proofs.Common.{inl, inr}
use Rattle.session_moves.specs.Going.{AttemptsGoOn}
use Rattle.session_moves.specs.declared.moving.Tried.TheVariants as tried
use Rattle.session_moves.proofs.Onward.{refuses, fails, starved_new, starved_old, cuts}
use Rattle.session_moves.proofs.ToNewLink.{moves_on}

pub attempts_go_on : AttemptsGoOn
attempts_go_on b p patience at given given' links links' old new board newest rs (tried.Moved k) tries s ready placed tells small = moves_on b p patience at tries.key links links' old new board newest rs s ready placed tries.kept k tries.comes_to tells
attempts_go_on b p patience at given given' links links' old new board newest rs tried.Stayed tries s ready placed tells small = elim tries.comes_to.1 [
  | inl r ↦ refuses b p patience at tries.key links links' old new board newest rs s ready placed tries.kept tries.comes_to.0 r
  | inr r ↦ fails b p patience at tries.key links links' old new board newest rs s ready placed tries.kept small tries.comes_to.0 r
]
attempts_go_on b p patience at given given' links links' old new board newest rs tried.Starved tries s ready placed tells small = elim tries.comes_to.1 [
  | inl r ↦ starved_new b p patience at tries.key links links' old new board newest rs s ready placed tries.kept tries.comes_to.0 r
  | inr r ↦ starved_old b p patience at tries.key links links' old new board newest rs s ready placed tries.kept tries.comes_to.0 r
]
attempts_go_on b p patience at given given' links links' old new board newest rs (tried.Cut c) tries s ready placed tells small = cuts b p patience at tries.key links links' old new board newest rs s ready placed tries.kept c tries.comes_to
