use Rattle.std.proofs.Common.{◌+◌, ◌*◌, refl, ap, ◌∙◌, arith}
use Rattle.text_fields.specs.Blocks.{values_of, are_small, packed}
use Rattle.text_fields.proofs.BlockLemmas.{decoded_to, small_on, sliced, length-values}
use Rattle.text_fields.proofs.blocks.decode_rest.Goals as goal

pub decode_last-requires-clause-octets : goal.decode_last-requires-clause-octets
decode_last-requires-clause-octets c =
    let digits = c.args.digits.now in
    let done = c.args.done in
    decoded_to (values_of digits) c.args.octets.now c.block-worst.new.octets done (2 * done) _ 32 (done + 16)
    (2 * (done + 16)) refl (omega arith) refl (omega arith) (omega arith) (omega (arith, length-values digits))
    c.requires.octets (c.block-worst.ensures.octets ∙ ap packed (sliced digits (2 * done) _ 32 (omega arith)))

pub decode_last-requires-clause-worst : goal.decode_last-requires-clause-worst
decode_last-requires-clause-worst c =
    let digits = c.args.digits.now in
    let done = c.args.done in
    c.block-worst.ensures.worst
    ∙ small_on (values_of digits) _ (are_small c.args.worst) (2 * done) 32 (2 * (done + 16)) (omega arith)
    c.requires.worst (sliced digits (2 * done) _ 32 (omega arith))
