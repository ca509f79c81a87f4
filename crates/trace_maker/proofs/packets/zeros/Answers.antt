use Rattle.std.proofs.lemmas.List.{take-replicate}
use Rattle.trace_maker.proofs.packets.zeros.Goals as goal

pub returns : goal.returns
returns c = take-replicate c.args.count 180 0 c.requires
