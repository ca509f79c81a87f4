use Rattle.std.proofs.Common.{arith}
use Rattle.tft_codec.proofs.ReadLemmas.{read_is_spelled, spelled_is_read}
use Rattle.tft_codec.proofs.reading.read.Goals as goal

pub returns-clause-found : goal.returns-clause-found
returns-clause-found c =
    read_is_spelled c.args.bytes.now c.whole.result (λ i. omega (arith, c.type_inv.bytes i)) c.whole.ensures.read

pub returns-clause-only : goal.returns-clause-only
returns-clause-only c = spelled_is_read c.args.bytes.now c.whole.result c.whole.ensures.read
