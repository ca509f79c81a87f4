use Rattle.std.proofs.Common.{[], sym, ap, subst, arith}
use Rattle.lawful_run.specs.Run.{no_events}
use Rattle.at_rest.specs.Coming.{AreLater}
use Rattle.at_rest.specs.Rest.{Rest}
use Rattle.check_epochs.proofs.playing.play_lines.Goals as goal

pub run_epoch-requires-clause-behind : goal.run_epoch-requires-clause-behind
run_epoch-requires-clause-behind g c = λ κs within. ([], c.new-rest.ensures.behind)

pub run_epoch-requires-clause-represents : goal.run_epoch-requires-clause-represents
run_epoch-requires-clause-represents g c = λ κs within. (no_events, c.new-rest.ensures.represents)

pub run_epoch-requires-clause-few : goal.run_epoch-requires-clause-few
run_epoch-requires-clause-few g c = λ κs within.
    let none = ap (λ (r : Rest). r.lines) c.new-rest.ensures.new in
    omega (arith, none, c.requires.few)

pub run_epoch-requires-clause-later : goal.run_epoch-requires-clause-later
run_epoch-requires-clause-later g c = λ κs within.
    subst (λ n. AreLater n c.args.lines.now) (sym (ap (λ (r : Rest). r.latest) c.new-rest.ensures.new)) c.requires.later
