use Rattle.std.proofs.Common.{◌+◌, ◌*◌, refl, ap, ◌∙◌, arith}
use Rattle.text_fields.specs.Blocks.{values_of, are_small, packed}
use Rattle.text_fields.proofs.BlockLemmas.{decoded_to, small_on, sliced, length-values}
use Rattle.text_fields.proofs.blocks.decode_half.Goals as goal

pub decode_rest-requires-clause-octets : goal.decode_rest-requires-clause-octets
decode_rest-requires-clause-octets c =
    let digits = c.args.digits.now in
    let done = c.args.done in
    decoded_to (values_of digits) c.args.octets.now c.two_blocks-worst.new.octets done (2 * done) _ 64 (done + 32)
    (2 * (done + 32)) refl (omega arith) refl (omega arith) (omega arith) (omega (arith, length-values digits))
    c.requires.octets (c.two_blocks-worst.ensures.octets ∙ ap packed (sliced digits (2 * done) _ 64 (omega arith)))

pub decode_rest-requires-clause-worst : goal.decode_rest-requires-clause-worst
decode_rest-requires-clause-worst c =
    let digits = c.args.digits.now in
    let done = c.args.done in
    c.two_blocks-worst.ensures.worst
    ∙ small_on (values_of digits) _ (are_small c.args.worst) (2 * done) 64 (2 * (done + 32)) (omega arith)
    c.requires.worst (sliced digits (2 * done) _ 64 (omega arith))
