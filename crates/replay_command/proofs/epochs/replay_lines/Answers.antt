use Rattle.std.proofs.Common.{◌+◌, ◌≤◌, ◌^◌, List, length, sym, subst}
use Rattle.trace_lines.specs.Line.{Line}
use Rattle.at_rest.specs.Coming.{AreLater}
use Rattle.replay_command.specs.Epoch.{IsReplayed}
use Rattle.replay_command.proofs.epochs.replay_lines.Goals as goal

pub replay_lent-requires-clause-few : goal.replay_lent-requires-clause-few
replay_lent-requires-clause-few g c = λ κs within.
    subst (λ (lines : List Line). c.args.rest.now.lines + length lines ≤ 2 ^ 39) (sym c.as_slice.ensures.value)
    c.requires.few

pub replay_lent-requires-clause-late : goal.replay_lent-requires-clause-late
replay_lent-requires-clause-late g c = λ κs within.
    subst (AreLater c.args.rest.now.latest) (sym c.as_slice.ensures.value) c.requires.late

pub returns-clause-replayed : goal.returns-clause-replayed
returns-clause-replayed g c =
    subst (λ (lines : List Line). IsReplayed c.args.rest.now lines c.args.pace c.args.bad c.args.number c.args.places
    c.args.report.now c.replay_lent.new.report c.replay_lent.new.rest) c.as_slice.ensures.value
    c.in_ok-replay_lent.ensures
