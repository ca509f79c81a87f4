use Rattle.text_fields.proofs.LaneLemmas.{with_is}
use Rattle.text_fields.proofs.blocks.with.Goals as goal

pub returns : goal.returns
returns c = with_is c.args.more c.args.lanes 16 c.ranges.more.fits c.fits-lanes.1 c.fits-lanes.0
