use Rattle.std.proofs.Common.{take}
use Rattle.std.specs.Prelude.{All}
use Rattle.pc_base.specs.Imsi.{IsImsi}
use Rattle.save_command.proofs.known.known_imsis.Given as goal

abbrev pub invariant-loop-imsi : goal.invariant-loop-imsi
invariant-loop-imsi l = All IsImsi (take l.imsi-index l.imsis)
