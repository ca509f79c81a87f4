use Rattle.std.proofs.Common.{sym, subst}
use Rattle.at_rest.specs.Rest.{IsBehind, RepresentsAll}
use Rattle.front_core.specs.Filled.{told_by}
use Rattle.replay_command.proofs.Stands.{few_so, later_so, replayed_so}
use Rattle.replay_command.proofs.epochs.replay_lent.Goals as goal

pub run_epoch-requires-clause-behind : goal.run_epoch-requires-clause-behind
run_epoch-requires-clause-behind g c = λ κs within. (
  c.requires.behind.0,
  subst (λ rest. IsBehind rest c.requires.behind.0) (sym c.replace-given.ensures.value) c.requires.behind.1,
)

pub run_epoch-requires-clause-represents : goal.run_epoch-requires-clause-represents
run_epoch-requires-clause-represents g c = λ κs within. (
  c.requires.represents.0,
  subst (λ rest. RepresentsAll rest c.requires.represents.0) (sym c.replace-given.ensures.value)
      c.requires.represents.1,
)

pub run_epoch-requires-clause-few : goal.run_epoch-requires-clause-few
run_epoch-requires-clause-few g c = λ κs within.
    few_so c.args.rest.now c.replace-given.result c.args.lines.now c.replace-given.ensures.value c.requires.few

pub run_epoch-requires-clause-later : goal.run_epoch-requires-clause-later
run_epoch-requires-clause-later g c = λ κs within.
    later_so c.args.rest.now c.replace-given.result c.args.lines.now c.replace-given.ensures.value c.requires.late

pub returns : goal.returns
returns g c =
    replayed_so c.args.rest.now c.replace-given.result c.args.lines.now c.args.pace c.args.bad c.args.number
    c.args.places c.args.report.now c.tell.new.report c.in_ok-epoch.field-0.rest
    (told_by c.in_ok-epoch.field-0.epoch) c.replace-given.ensures.value c.in_ok-epoch.ensures.closes
    c.in_ok-epoch.ensures.latest c.in_ok-epoch.ensures.refusals c.in_ok-tell.ensures
