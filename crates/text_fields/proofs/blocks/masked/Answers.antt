use Rattle.std.proofs.lemmas.Simd.{zip2_splat}
use Rattle.text_fields.proofs.blocks.masked.Goals as goal

pub returns : goal.returns
returns c = zip2_splat _ c.args.lanes 16 c.args.mask c.fits-lanes.0
