use Rattle.std.proofs.Common.{sym, ◌∙◌}
use Rattle.packet_steps.proofs.meters.Meters.put.Goals as goal

pub put_own-requires : goal.put_own-requires
put_own-requires c = c.requires (sym c.is_guaranteed.ensures ∙ c.if-is_guaranteed.true)
