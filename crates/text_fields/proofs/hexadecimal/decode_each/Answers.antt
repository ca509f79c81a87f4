use Rattle.std.proofs.Common.{sym, arith}
use Rattle.text_fields.proofs.HexadecimalLemmas.{two_tested, octet_decoded, all_decoded}
use Rattle.text_fields.proofs.hexadecimal.decode_each.Goals as goal

pub loop-place-preserved : goal.loop-place-preserved
loop-place-preserved c =
    let digits = c.args.digits.now in
    let place = c.loop-place.place in
    record {
      tested = rw (c.loop-place.invariant.tested, c.is_hex_digit.ensures, c.is_hex_digit-in-loop-place.ensures)
          (sym (two_tested digits place (omega arith)));
      decoded = rw (c.is_hex_digit.ensures, c.is_hex_digit-in-loop-place.ensures)
          (octet_decoded digits c.loop-place.octets place c.loop-place.all _ _ (omega arith)
          (omega arith) c.nibble.ensures c.nibble-in-loop-place.ensures c.loop-place.invariant.decoded);
    }

pub returns-clause-octets : goal.returns-clause-octets
returns-clause-octets c good =
    all_decoded c.args.digits.now c.loop-place.octets c.loop-place.place (omega arith) (omega arith)
    (c.loop-place.invariant.decoded good)
