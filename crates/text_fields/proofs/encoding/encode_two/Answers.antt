use Rattle.std.proofs.Common.{◌-◌, length, drop, refl, sym, ap, ◌∙◌, arith}
use Rattle.std.proofs.lemmas.List.{length-take-le, length-drop, take_all}
use Rattle.hex.specs.Hex.{encode_lower}
use Rattle.text_fields.proofs.EncodeLemmas.{two_encoded}
use Rattle.text_fields.proofs.encoding.encode_two.Goals as goal

pub slice_bounds-encode_block-end-3 : goal.slice_bounds-encode_block-end-3
slice_bounds-encode_block-end-3 c = sym (length-take-le 32 c.args.digits.now (omega arith))

pub encode_block-requires-clause-digits : goal.encode_block-requires-clause-digits
encode_block-requires-clause-digits c = length-take-le 32 c.args.digits.now (omega arith)

pub returns : goal.returns
returns c =
    let octets = c.args.octets.now in
    let rest = take_all (length octets - 16) (drop 16 octets) (omega (arith, length-drop 16 octets)) in
    two_encoded 16 32 octets c.args.digits.now c.encode_block.new.digits c.encode_block-2.new.digits refl c.requires.octets
    c.requires.digits c.encode_block.ensures (c.encode_block-2.ensures ∙ ap encode_lower rest)
