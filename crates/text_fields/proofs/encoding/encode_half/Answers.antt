use Rattle.std.proofs.Common.{◌+◌, ◌*◌, refl, arith}
use Rattle.text_fields.proofs.EncodeLemmas.{encoded_to}
use Rattle.text_fields.proofs.encoding.encode_half.Goals as goal

pub encode_rest-requires-clause-digits : goal.encode_rest-requires-clause-digits
encode_rest-requires-clause-digits c =
    let done = c.args.done in
    encoded_to c.args.octets.now c.args.digits.now c.encode_two.new.digits done (2 * done) _ _ (2 * (done + 32))
    (done + 32) refl (omega arith) (omega arith) (omega arith) (omega arith) (omega arith) c.requires.digits c.encode_two.ensures
