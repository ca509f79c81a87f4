use Rattle.std.proofs.Common.{take}
use Rattle.std.specs.Prelude.{All}
use Rattle.record_codec.specs.Saved.{IsOwnBearer}
use Rattle.save_command.proofs.known.known_bearers.Given as goal

abbrev pub invariant-loop-bearer : goal.invariant-loop-bearer
invariant-loop-bearer l = All IsOwnBearer (take l.bearer-index l.bearers)
