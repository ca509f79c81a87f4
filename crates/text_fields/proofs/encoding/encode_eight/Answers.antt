use Rattle.std.proofs.Common.{◌≡◌, List, ℕ, ◌++◌, map, ap, ◌∙◌}
use Rattle.std.proofs.lemmas.Simd.{put_chunk_whole}
use lib.ListN.{replicate}
use Rattle.text_fields.specs.Blocks.{high_digit, low_digit}
use Rattle.text_fields.proofs.EncodeLemmas.{prefix_of, eight_digits}
use Rattle.text_fields.proofs.encoding.encode_eight.Goals as goal

pub returns : goal.returns
returns c =
    let octets : List ℕ = c.args.octets.now in
    let padded : List ℕ = octets ++ replicate 8 0 in
    let both = c.high_digits-high.result ++ c.low_digits-low.result in
    let is : c.copy_from_slice.new.self ++ replicate 8 0 ≡ padded =
    ap (λ (xs : List ℕ). xs ++ replicate 8 0) c.copy_from_slice.ensures.after in
    let high : c.high_digits-high.result ≡ map high_digit padded = c.high_digits-high.ensures ∙ ap (map high_digit) is in
    let low : c.low_digits-low.result ≡ map low_digit padded = c.low_digits-low.ensures ∙ ap (map low_digit) is in
    let joined : both ≡ map high_digit padded ++ map low_digit padded = cc in
    put_chunk_whole c.args.digits.now (prefix_of both) c.requires.digits ∙ ap prefix_of joined
    ∙ eight_digits octets c.requires.octets
