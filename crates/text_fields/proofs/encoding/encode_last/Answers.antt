use Rattle.std.proofs.Common.{◌-◌, ◌*◌, length, refl, arith}
use Rattle.text_fields.proofs.EncodeLemmas.{encoded_last}
use Rattle.text_fields.proofs.encoding.encode_last.Goals as goal

pub returns : goal.returns
returns c =
    let at = length c.args.octets.now - 16 in
    encoded_last c.args.octets.now c.args.digits.now c.encode_block.new.digits at (2 * at) _ _ c.args.done refl
    (omega arith) (omega arith) (omega arith) (omega arith) c.requires.digits c.encode_block.ensures
