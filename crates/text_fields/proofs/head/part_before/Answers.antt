use Rattle.std.proofs.Common.{length, drop, ap, arith, length-append}
use Rattle.std.specs.Prelude.{decimal}
use Rattle.std.proofs.lemmas.Fmt.{length-decimal-le}
use Rattle.text_fields.proofs.head.part_before.Goals as goal

pub write_digits-at-requires : goal.write_digits-at-requires
write_digits-at-requires c =
    let short = length-decimal-le 3 c.from.result (omega arith) (omega arith) (omega arith) in
    (omega arith, omega arith)

pub octet_before-requires-clause-room : goal.octet_before-requires-clause-room
octet_before-requires-clause-room c =
    let short = length-decimal-le 3 c.from.result (omega arith) (omega arith) (omega arith) in
    omega (arith, c.write_digits-at.ensures.start)

pub returns-clause-len : goal.returns-clause-len
returns-clause-len c =
    let short = length-decimal-le 3 c.from.result (omega arith) (omega arith) (omega arith) in
    omega (
      arith,
      ap length c.octet_before.ensures.value,
      ap length c.write_digits-at.ensures.written,
      length-append (decimal c.from.result) (drop c.args.end c.args.octets.now),
    )
