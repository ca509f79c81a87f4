use Rattle.std.proofs.Common.{◌&&◌, ◌-◌, length, drop, refl, sym, ap, ◌∙◌, arith}
use Rattle.std.proofs.lemmas.List.{length-take-le, length-drop, take_all}
use Rattle.text_fields.specs.Blocks.{values_of, are_small, packed}
use Rattle.text_fields.proofs.BlockLemmas.{two_packed, small_two}
use Rattle.text_fields.proofs.blocks.two_blocks.Goals as goal

pub slice_bounds-block-end : goal.slice_bounds-block-end
slice_bounds-block-end c = sym (length-take-le 32 c.args.digits.now (omega arith))

pub block-worst-requires-clause-digits : goal.block-worst-requires-clause-digits
block-worst-requires-clause-digits c = length-take-le 32 c.args.digits.now (omega arith)

pub returns-clause-octets : goal.returns-clause-octets
returns-clause-octets c =
    let digits = c.args.digits.now in
    let rest = take_all (length digits - 32) (drop 32 digits) (omega (arith, length-drop 32 digits)) in
    two_packed 16 32 digits c.args.octets.now c.block-worst.new.octets c.block.new.octets refl c.requires.digits
    c.requires.octets c.block-worst.ensures.octets (c.block.ensures.octets ∙ ap (λ part. packed (values_of part)) rest)

pub returns-clause-worst : goal.returns-clause-worst
returns-clause-worst c =
    let digits = c.args.digits.now in
    let rest = take_all (length digits - 32) (drop 32 digits) (omega (arith, length-drop 32 digits)) in
    c.block.ensures.worst ∙ ap (λ part. are_small c.block-worst.result && are_small (values_of part)) rest
    ∙ ap (λ b. b && are_small (values_of (drop 32 digits))) c.block-worst.ensures.worst
    ∙ small_two digits (are_small c.args.worst) 32
