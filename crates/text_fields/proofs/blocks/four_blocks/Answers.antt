use Rattle.std.proofs.Common.{◌&&◌, ◌-◌, length, drop, refl, sym, ap, ◌∙◌, arith}
use Rattle.std.proofs.lemmas.List.{length-take-le, length-drop, take_all}
use Rattle.text_fields.specs.Blocks.{values_of, are_small, packed}
use Rattle.text_fields.proofs.BlockLemmas.{two_packed, small_two}
use Rattle.text_fields.proofs.blocks.four_blocks.Goals as goal

pub slice_bounds-two_blocks-end : goal.slice_bounds-two_blocks-end
slice_bounds-two_blocks-end c = sym (length-take-le 64 c.args.digits.now (omega arith))

pub two_blocks-worst-requires-clause-digits : goal.two_blocks-worst-requires-clause-digits
two_blocks-worst-requires-clause-digits c = length-take-le 64 c.args.digits.now (omega arith)

pub slice_bounds-two_blocks-end-3 : goal.slice_bounds-two_blocks-end-3
slice_bounds-two_blocks-end-3 c = sym (length-take-le 32 c.args.octets.now (omega arith))

pub two_blocks-worst-requires-clause-octets : goal.two_blocks-worst-requires-clause-octets
two_blocks-worst-requires-clause-octets c = length-take-le 32 c.args.octets.now (omega arith)

pub returns-clause-octets : goal.returns-clause-octets
returns-clause-octets c =
    let digits = c.args.digits.now in
    let rest = take_all (length digits - 64) (drop 64 digits) (omega (arith, length-drop 64 digits)) in
    two_packed 32 64 digits c.args.octets.now c.two_blocks-worst.new.octets c.two_blocks.new.octets refl c.requires.digits
    c.requires.octets c.two_blocks-worst.ensures.octets (c.two_blocks.ensures.octets ∙ ap (λ part. packed (values_of part)) rest)

pub returns-clause-worst : goal.returns-clause-worst
returns-clause-worst c =
    let digits = c.args.digits.now in
    let rest = take_all (length digits - 64) (drop 64 digits) (omega (arith, length-drop 64 digits)) in
    c.two_blocks.ensures.worst ∙ ap (λ part. are_small c.two_blocks-worst.result && are_small (values_of part)) rest
    ∙ ap (λ b. b && are_small (values_of (drop 64 digits))) c.two_blocks-worst.ensures.worst
    ∙ small_two digits (are_small c.args.worst) 64
