use Rattle.std.proofs.Common.{◌≡◌, ◌+◌, sym, subst, arith}
use Rattle.front_core.specs.declared.tried.Given.{Given}
use Rattle.front_core.specs.Tries.{CountsTries, GivesCommand}
use Rattle.front_core.proofs.Trying.{command_counted, command_full, command_given, command_later, command_tried, none_tried}
use Rattle.front_core.proofs.halves.Halves.give_command.Goals as goal
use Rattle.front_core.proofs.halves.Halves.give_command.Goals.{in-Ok-try_command, in-Err-try_command}

pub loop-init : goal.loop-init
loop-init g c = none_tried c.args.slot c.args.command c.args.self.now c.requires

pub try_command-requires : goal.try_command-requires
try_command-requires g c = c.loop.invariant.may

pub returns-in-Ok-clause-gives : goal.returns-in-Ok-clause-gives
returns-in-Ok-clause-gives g c =
    command_given c.args.slot c.args.command c.loop.command c.loop.counter c.args.self.now c.loop.self c.loop.invariant
    c.args.line (c.args.patience + 1) _ c.in-Ok.ensures.sent

pub loop-preserved : goal.loop-preserved
loop-preserved g c =
    let full = c.in-Err.ensures.full in
    command_tried c.args.slot c.args.command c.loop.command c.loop.counter c.args.self.now c.loop.self c.loop.invariant
    _ _ full.0 full.1 c.try_command.ensures.rises full.3 full.4

pub returns-in-Ok-clause-rises : goal.returns-in-Ok-clause-rises
returns-in-Ok-clause-rises g c =
    command_later c.args.slot c.args.command c.loop.command c.loop.counter c.args.self.now c.loop.self c.loop.invariant
    c.try_command.new.self c.try_command.ensures.rises

pub returns-clause-rises : goal.returns-clause-rises
returns-clause-rises g c =
    command_later c.args.slot c.args.command c.loop.command c.loop.counter c.args.self.now c.loop.self c.loop.invariant
    c.try_command-2.new.self c.try_command-2.ensures.rises

pub returns-clause-gives : goal.returns-clause-gives
returns-clause-gives g c =
    let gives = λ (given : Given). GivesCommand c.args.slot c.args.line c.args.command (c.args.patience + 1) given
    c.args.self.now c.try_command-2.new.self in
    elim c.match-try_command-2.branch [
      | in-Ok-try_command w ↦
          subst gives (sym w.result-is)
          (command_given c.args.slot c.args.command c.loop.command c.loop.counter c.args.self.now c.loop.self
          c.loop.invariant c.args.line (c.args.patience + 1) c.try_command-2.new.self w.in-Ok-try_command.ensures.sent)
      | in-Err-try_command w ↦
          let full = w.in-Err-try_command.ensures.full in
          let same : c.loop.counter + 1 ≡ c.args.patience + 1 =
          omega (arith, c.loop-test.false, c.loop.auto.counter-end) in
          subst gives (sym w.result-is)
          (command_full c.args.slot c.args.command c.loop.command c.loop.counter c.args.self.now c.loop.self
          c.loop.invariant c.args.line (c.args.patience + 1) c.try_command-2.new.self full.1 full.2 full.3 full.4 same)
    ]

pub returns-in-Ok-clause-counts : goal.returns-in-Ok-clause-counts
returns-in-Ok-clause-counts g c =
    command_counted c.args.slot c.args.command c.loop.command c.loop.counter c.args.self.now c.loop.self c.loop.invariant
    (c.args.patience + 1) c.try_command.new.self c.in-Ok.ensures.counts (omega (arith, c.loop-test.true))

pub returns-clause-counts : goal.returns-clause-counts
returns-clause-counts g c =
    let counts = λ (given : Given). CountsTries (c.args.patience + 1) given c.args.self.now.fulls
    c.try_command-2.new.self.fulls in
    elim c.match-try_command-2.branch [
      | in-Ok-try_command w ↦
          subst counts (sym w.result-is)
          (command_counted c.args.slot c.args.command c.loop.command c.loop.counter c.args.self.now c.loop.self
          c.loop.invariant (c.args.patience + 1) c.try_command-2.new.self w.in-Ok-try_command.ensures.counts
          (omega (arith, c.loop.auto.counter-end)))
      | in-Err-try_command w ↦
          let full = w.in-Err-try_command.ensures.full in
          let same : c.loop.counter + 1 ≡ c.args.patience + 1 =
          omega (arith, c.loop-test.false, c.loop.auto.counter-end) in
          subst counts (sym w.result-is)
          (command_full c.args.slot c.args.command c.loop.command c.loop.counter c.args.self.now c.loop.self
          c.loop.invariant c.args.line (c.args.patience + 1) c.try_command-2.new.self full.1 full.2 full.3 full.4
          same).2
    ]
