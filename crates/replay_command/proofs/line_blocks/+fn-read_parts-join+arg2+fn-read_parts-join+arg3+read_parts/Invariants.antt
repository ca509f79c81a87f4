use Rattle.std.proofs.Common.{◌+◌, ◌*◌, length}
use Rattle.replay_command.proofs.line_blocks.+fn-read_parts-join+arg2+fn-read_parts-join+arg3+read_parts.Given as goal

abbrev pub decreases-join+arg2 : goal.decreases-join+arg2
decreases-join+arg2 g l = 2 * length l.prefix.now + 1

abbrev pub decreases-join+arg3 : goal.decreases-join+arg3
decreases-join+arg3 g l = 2 * length l.back.now + 1

abbrev pub decreases-read_parts : goal.decreases-read_parts
decreases-read_parts g l = 2 * length l.octets.now
