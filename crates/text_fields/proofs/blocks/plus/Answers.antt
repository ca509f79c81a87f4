use Rattle.std.proofs.lemmas.Simd.{zip2_splat}
use Rattle.text_fields.proofs.blocks.plus.Goals as goal

pub returns : goal.returns
returns c = zip2_splat _ c.args.lanes 16 c.args.more c.fits-lanes.0
