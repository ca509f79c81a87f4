use Rattle.std.proofs.Common.{◌≡◌, ◌+◌, ◌*◌, ◌/◌, length, take, ap, ◌∙◌, arith}
use Rattle.text_fields.specs.Blocks.{values_of, are_small, packed}
use Rattle.text_fields.proofs.BlockLemmas.{decoded_to, small_on, sliced, length-values}
use Rattle.text_fields.proofs.blocks.decode_blocks.Goals as goal

pub loop-place-preserved : goal.loop-place-preserved
loop-place-preserved c =
    let digits = c.args.digits.now in
    let place = c.loop-place.place in
    record {
      octets = decoded_to (values_of digits) c.loop-place.octets c.four_blocks-worst.new.octets (64 * place) (128 * place) _ 128
          (64 * (place + 1)) (128 * (place + 1)) (omega arith) (omega arith) (omega arith) (omega arith)
          (omega arith) (omega (arith, length-values digits)) c.loop-place.invariant.octets
          (c.four_blocks-worst.ensures.octets ∙ ap packed (sliced digits (128 * place) _ 128 (omega arith)));
      worst = c.four_blocks-worst.ensures.worst
          ∙ small_on (values_of digits) _ (are_small c.loop-place.worst) (128 * place) 128 (128 * (place + 1)) (omega arith)
          c.loop-place.invariant.worst (sliced digits (128 * place) _ 128 (omega arith));
    }

pub decode_half-requires-clause-octets : goal.decode_half-requires-clause-octets
decode_half-requires-clause-octets c =
    let len = length c.args.octets.now in
    let place = c.loop-place.place in
    let octets : len / 64 * 64 ≡ 64 * place = omega arith in
    let digits : 128 * place ≡ 2 * (len / 64 * 64) = omega arith in
    ap (λ n. take n c.loop-place.octets) octets ∙ c.loop-place.invariant.octets
    ∙ ap (λ n. packed (take n (values_of c.args.digits.now))) digits

pub decode_half-requires-clause-worst : goal.decode_half-requires-clause-worst
decode_half-requires-clause-worst c =
    let len = length c.args.octets.now in
    let place = c.loop-place.place in
    let digits : 128 * place ≡ 2 * (len / 64 * 64) = omega arith in
    c.loop-place.invariant.worst ∙ ap (λ n. are_small (take n (values_of c.args.digits.now))) digits
