use Rattle.std.proofs.Common.{◌-◌, length, drop, refl, sym, ap, ◌∙◌, arith}
use Rattle.std.proofs.lemmas.List.{length-take-le, length-drop, take_all}
use Rattle.hex.specs.Hex.{encode_lower}
use Rattle.text_fields.proofs.EncodeLemmas.{two_encoded}
use Rattle.text_fields.proofs.encoding.encode_four.Goals as goal

pub slice_bounds-encode_two-end : goal.slice_bounds-encode_two-end
slice_bounds-encode_two-end c = sym (length-take-le 32 c.args.octets.now (omega arith))

pub slice_bounds-encode_two-end-3 : goal.slice_bounds-encode_two-end-3
slice_bounds-encode_two-end-3 c = sym (length-take-le 64 c.args.digits.now (omega arith))

pub encode_two-requires-clause-octets : goal.encode_two-requires-clause-octets
encode_two-requires-clause-octets c = length-take-le 32 c.args.octets.now (omega arith)

pub encode_two-requires-clause-digits : goal.encode_two-requires-clause-digits
encode_two-requires-clause-digits c = length-take-le 64 c.args.digits.now (omega arith)

pub returns : goal.returns
returns c =
    let octets = c.args.octets.now in
    let rest = take_all (length octets - 32) (drop 32 octets) (omega (arith, length-drop 32 octets)) in
    two_encoded 32 64 octets c.args.digits.now c.encode_two.new.digits c.encode_two-2.new.digits refl c.requires.octets
    c.requires.digits c.encode_two.ensures (c.encode_two-2.ensures ∙ ap encode_lower rest)
