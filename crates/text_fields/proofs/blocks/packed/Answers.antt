use Rattle.std.proofs.Common.{◌++◌, ap, arith, length-append}
use Rattle.text_fields.specs.Blocks.{packed}
use Rattle.text_fields.proofs.LaneLemmas.{is_listing}
use Rattle.text_fields.proofs.blocks.packed.Goals as goal

pub returns : goal.returns
returns c = ap packed (is_listing (c.args.first ++ c.args.second) 32 (omega (arith, length-append c.args.first c.args.second, c.fits-first.0, c.fits-second.0)))
