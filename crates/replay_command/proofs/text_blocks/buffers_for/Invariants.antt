use Rattle.std.proofs.Common.{◌-◌, ◌≤◌, vec_len}
use Rattle.replay_command.proofs.text_blocks.buffers_for.Given as goal

abbrev pub invariant-loop-alloc : goal.invariant-loop-alloc
invariant-loop-alloc l = vec_len l.buffers ≤ l.many

abbrev pub decreases-loop-alloc : goal.decreases-loop-alloc
decreases-loop-alloc l = l.many - vec_len l.buffers
