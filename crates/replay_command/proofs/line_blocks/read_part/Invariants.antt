use Rattle.std.proofs.Common.{length, drop, ◌-◌, ◌≤◌}
use Rattle.replay_command.specs.Apart.{AreFirst}
use Rattle.replay_command.proofs.line_blocks.read_part.Given as goal

abbrev pub invariant-loop-at : goal.invariant-loop-at
invariant-loop-at l = record {
  within : l.at ≤ length l.octets;
  lines : AreFirst l.lines.items l.octets (drop l.at l.octets);
}

abbrev pub decreases-loop-at : goal.decreases-loop-at
decreases-loop-at l = length l.octets - l.at
