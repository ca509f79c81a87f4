use Rattle.std.proofs.Common.{length, Ok, sym, ap, ◌∙◌, arith}
use Rattle.hex.proofs.HexLemmas.{decode_of-even}
use Rattle.text_fields.proofs.BlockLemmas.{small_digits, pairs_packed}
use Rattle.text_fields.proofs.hexadecimal.decode.Goals as goal

pub returns-else-octets-lt16-clause-digits : goal.returns-else-octets-lt16-clause-digits
returns-else-octets-lt16-clause-digits c =
    c.decode_blocks.ensures.good ∙ small_digits c.args.digits.now c.type_inv.digits

pub returns-else-octets-lt16-clause-octets : goal.returns-else-octets-lt16-clause-octets
returns-else-octets-lt16-clause-octets c good =
    let digits = c.args.digits.now in
    let all = sym (small_digits digits c.type_inv.digits) ∙ sym c.decode_blocks.ensures.good ∙ good in
    decode_of-even digits (omega arith)
    ∙ pairs_packed 0 (length c.args.octets.now) digits c.type_inv.digits c.requires all
    ∙ ap Ok (sym c.decode_blocks.ensures.octets)
