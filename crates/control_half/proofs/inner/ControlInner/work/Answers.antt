use Rattle.std.proofs.Common.{sym, subst}
use Rattle.lane_core.specs.declared.did.Did.{Did}
use Rattle.control_half.specs.Half.{seen_of}
use Rattle.control_half.specs.Turns.{Ended}
use Rattle.control_half.proofs.Turned.{Turns, turn_ended, turn_sent}
use Rattle.control_half.proofs.inner.ControlInner.work.Given as given
use Rattle.control_half.proofs.inner.ControlInner.work.Goals as goal

-- what its steps say of the turn
turns_of : (g : given.Over) (c : goal.After-came_to g)
    → Turns c.args.self.now c.send.new.self c.apply_all.new.self c.send-behind.new.self c.in_ok-applied.applied
    c.in-Some.before c.send-behind.result
turns_of g c = record {
  sends = c.in-Some.ensures.sends;
  control_one = c.send.ensures.control;
  commands_one = c.send.ensures.commands;
  versions_two = c.apply_all.ensures.versions;
  some = c.in_ok-applied.ensures.applied;
  none = c.in_ok-applied.ensures.none;
  few = c.in_ok-applied.ensures.few;
  stops = c.in_ok-applied.ensures.stops;
  sends_behind = c.send-behind.ensures.sends;
  control_new = c.send-behind.ensures.control;
  head_new = c.send-behind.ensures.head;
  commands_new = c.send-behind.ensures.commands;
  hop_new = c.send-behind.ensures.same.hop;
}

pub returns-clause-ended : goal.returns-clause-ended
returns-clause-ended g c =
    subst (λ (d : Did). Ended d (seen_of c.args.self.now) (seen_of c.send-behind.new.self)) (sym c.came_to.ensures)
    (turn_ended c.args.self.now c.send.new.self c.apply_all.new.self c.send-behind.new.self c.in_ok-applied.applied
    c.in-Some.before c.send-behind.result (turns_of g c))

pub returns-clause-sent : goal.returns-clause-sent
returns-clause-sent g c =
    turn_sent c.args.self.now c.send.new.self c.apply_all.new.self c.send-behind.new.self c.in_ok-applied.applied
    c.in-Some.before c.send-behind.result (turns_of g c)
