use Rattle.std.proofs.Common.{◌+◌, ◌*◌, vec_len}
use Rattle.replay_command.proofs.text_blocks.+fn-told_by_blocks-join+arg2+fn-told_by_blocks-join+arg3+told_by_blocks.Given as goal

abbrev pub decreases-join+arg2 : goal.decreases-join+arg2
decreases-join+arg2 g l = 2 * vec_len l.first_buffers + 1

abbrev pub decreases-join+arg3 : goal.decreases-join+arg3
decreases-join+arg3 g l = 2 * vec_len l.other_buffers + 1

abbrev pub decreases-told_by_blocks : goal.decreases-told_by_blocks
decreases-told_by_blocks g l = 2 * vec_len l.buffers
