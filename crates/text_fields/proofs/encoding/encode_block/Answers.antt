use Rattle.std.proofs.Common.{◌≡◌, ◌++◌, map, take, refl, ap, ◌∙◌, arith}
use Rattle.std.proofs.lemmas.List.{take_all}
use Rattle.text_fields.specs.Blocks.{high_digit, low_digit}
use Rattle.text_fields.proofs.EncodeLemmas.{prefix_of, back_of, block_digits, two_chunks}
use Rattle.text_fields.proofs.encoding.encode_block.Goals as goal

pub returns : goal.returns
returns c =
    let octets = c.args.octets.now in
    let whole : take 16 octets ≡ octets = take_all 16 octets (omega arith) in
    let both = c.high_digits-high.result ++ c.low_digits-low.result in
    let high : c.high_digits-high.result ≡ map high_digit octets = c.high_digits-high.ensures ∙ ap (map high_digit) whole in
    let low : c.low_digits-low.result ≡ map low_digit octets = c.low_digits-low.ensures ∙ ap (map low_digit) whole in
    let joined : both ≡ map high_digit octets ++ map low_digit octets = cc in
    two_chunks c.args.digits.now (prefix_of both) (back_of both) c.requires.digits refl refl
    ∙ ap (λ xs. prefix_of xs ++ back_of xs) joined ∙ block_digits octets c.requires.octets
