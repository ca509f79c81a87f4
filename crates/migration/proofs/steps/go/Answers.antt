use Rattle.std.proofs.Common.{rules, refl}
use Rattle.migration.proofs.steps.go.Goals as goal

pub returns-clause-moves : goal.returns-clause-moves
returns-clause-moves g c = record {
  before = c.in-Some.place_was;
  now = record { hop = _; state = c.gone-state.result; admitted = c.in-Some.place_was.admitted };
  was = search rules;
  is = refl;
  hop = refl;
  admitted = refl;
  goes = c.gone-state.ensures.goes;
}
