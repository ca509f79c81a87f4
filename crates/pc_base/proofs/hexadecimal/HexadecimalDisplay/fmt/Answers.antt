use Rattle.std.proofs.Common.{rules}
use Rattle.std.proofs.Output.{has_written_append, has_written_of_eq, writes_in_calls_nil}
use Rattle.hex.specs.Hex.{encode_with}
use Rattle.pc_base.proofs.HexadecimalLemmas.{encode_more}
use Rattle.pc_base.proofs.hexadecimal.HexadecimalDisplay.fmt.Goals as goal

pub loop-octet-init : goal.loop-octet-init
unfolding encode_with
loop-octet-init g c plain = record { wrote = writes_in_calls_nil _ _; plain = plain }

pub loop-octet-preserved : goal.loop-octet-preserved
loop-octet-preserved g c plain =
    has_written_of_eq _ _ _ _ _ (encode_more c.args.self.now.0.now c.loop-octet.octet-index (search rules))
    (has_written_append _ _ _ _ _ _ (c.loop-octet.invariant plain) (search rules))
