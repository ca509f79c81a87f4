use Rattle.std.proofs.Common.{◌%◌, arith, w8}
use Rattle.std.proofs.lemmas.Simd.{below_from_Fits}
use Rattle.text_fields.specs.declared.encoding.TheConstants.{DIGITS}
use Rattle.text_fields.proofs.EncodeLemmas.{low_ok, low_is, looked_up}
use Rattle.text_fields.proofs.encoding.low_digits.Goals as goal

pub swizzle : goal.swizzle
swizzle c = low_ok c.args.octets c.fits-octets.0

pub returns : goal.returns
returns c =
    looked_up DIGITS (λ x. x % 16) c.args.octets _ c.fits-octets.0 (below_from_Fits w8 c.args.octets c.fits-octets.1)
    (low_is c.args.octets 16 c.fits-octets.0) (λ x fits. omega arith)
