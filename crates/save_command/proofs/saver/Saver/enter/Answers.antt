use Rattle.std.proofs.Common.{[], ap, subst}
use Rattle.trace_lines.specs.Line.{Line, IsLine}
use Rattle.save_command.specs.Left.{histories}
use Rattle.save_command.proofs.TakenLemmas.{line_taken}
use Rattle.save_command.proofs.saver.Saver.enter.Goals as goal

pub returns-clause-taken : goal.returns-clause-taken
returns-clause-taken c = λ done latest taken due.
    line_taken c.args.self.now _ c.enter.new.self c.args.self.now.told c.enter.new.report done latest c.args.line.now
    taken due (subst IsLine c.line.view_is c.line.invariant) c.in_ok-enter.ensures.answers
    (c.in_ok-enter.ensures.stands done latest (histories done) [] taken.stands due.late)
    c.in_ok-end_epoch.ensures.stands c.end_epoch.ensures.same (ap (λ (l : Line). l.number) c.line.view_is)
    (ap (λ (l : Line). l.moment) c.line.view_is)
