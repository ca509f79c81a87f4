use Rattle.std.proofs.Common.{◌+◌, ◌*◌, refl, arith}
use Rattle.text_fields.proofs.EncodeLemmas.{encoded_to}
use Rattle.text_fields.proofs.encoding.encode_rest.Goals as goal

pub encode_last-requires-clause-digits : goal.encode_last-requires-clause-digits
encode_last-requires-clause-digits c =
    let done = c.args.done in
    encoded_to c.args.octets.now c.args.digits.now c.encode_block.new.digits done (2 * done) _ _ (2 * (done + 16))
    (done + 16) refl (omega arith) (omega arith) (omega arith) (omega arith) (omega arith) c.requires.digits c.encode_block.ensures
