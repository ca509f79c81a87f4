use Rattle.text_fields.proofs.LaneLemmas.{without_is}
use Rattle.text_fields.proofs.blocks.without.Goals as goal

pub returns : goal.returns
returns c = without_is c.args.less c.args.lanes 16 c.ranges.less.fits c.fits-lanes.1 c.fits-lanes.0
