use Rattle.std.proofs.Common.{◌≡◌, ◌+◌, ◌*◌, ◌/◌, length, take, refl, ap, ◌∙◌, arith}
use Rattle.hex.specs.Hex.{encode_with, encode_lower}
use Rattle.text_fields.proofs.EncodeLemmas.{encoded_to}
use Rattle.text_fields.proofs.encoding.encode_blocks.Goals as goal

pub loop-place-init : goal.loop-place-init
unfolding encode_with
loop-place-init c = refl

pub loop-place-preserved : goal.loop-place-preserved
loop-place-preserved c =
    let place = c.loop-place.place in
    encoded_to c.args.octets.now c.loop-place.digits c.encode_four.new.digits (64 * place) (128 * place) _ _
    (128 * (place + 1)) (64 * (place + 1)) (omega arith) (omega arith) (omega arith) (omega arith)
    (omega arith) (omega arith) c.loop-place.invariant c.encode_four.ensures

pub encode_half-requires-clause-digits : goal.encode_half-requires-clause-digits
encode_half-requires-clause-digits c =
    let len = length c.args.octets.now in
    let place = c.loop-place.place in
    let digits : 2 * (len / 64 * 64) ≡ 128 * place = omega arith in
    let octets : 64 * place ≡ len / 64 * 64 = omega arith in
    ap (λ n. take n c.loop-place.digits) digits ∙ c.loop-place.invariant
    ∙ ap (λ n. encode_lower (take n c.args.octets.now)) octets
