use Rattle.std.proofs.Common.{◌-◌, ◌*◌, length, refl, ap, ◌∙◌, arith}
use Rattle.text_fields.specs.Blocks.{values_of, are_small, packed}
use Rattle.text_fields.proofs.BlockLemmas.{decoded_last, small_last, sliced, length-values}
use Rattle.text_fields.proofs.blocks.decode_last.Goals as goal

pub returns-clause-octets : goal.returns-clause-octets
returns-clause-octets c =
    let digits = c.args.digits.now in
    let octets = c.args.octets.now in
    let at = length octets - 16 in
    decoded_last (values_of digits) octets c.block.new.octets at (2 * at) _ 32 c.args.done refl (omega arith)
    (omega arith) (omega arith) (omega (arith, length-values digits)) c.requires.octets
    (c.block.ensures.octets ∙ ap packed (sliced digits (2 * at) _ 32 (omega arith)))

pub returns-clause-worst : goal.returns-clause-worst
returns-clause-worst c =
    let digits = c.args.digits.now in
    let at = length c.args.octets.now - 16 in
    c.block.ensures.worst
    ∙ small_last (values_of digits) _ (are_small c.args.worst) at (2 * at) 32 c.args.done refl
    (omega (arith, length-values digits)) (omega arith) c.requires.worst (sliced digits (2 * at) _ 32 (omega arith))
