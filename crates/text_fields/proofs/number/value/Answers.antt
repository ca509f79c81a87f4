use Rattle.std.proofs.Common.{arith}
use Rattle.text_fields.proofs.DigitLemmas.{one_digit_more, more_at_least}
use Rattle.text_fields.proofs.number.value.Goals as goal

pub returns-in_default : goal.returns-in_default
returns-in_default c =
    omega (
      arith,
      c.loop-digit.invariant,
      c.in_default.ensures,
      more_at_least c.args.digits.now c.loop-digit.digit-index c.requires c.loop-digit-test.true,
    )

pub returns-in_default-checked_add : goal.returns-in_default-checked_add
returns-in_default-checked_add c =
    omega (
      arith,
      c.loop-digit.invariant,
      c.in-Some.ensures,
      c.from.ensures,
      c.in_default-checked_add.ensures,
      more_at_least c.args.digits.now c.loop-digit.digit-index c.requires c.loop-digit-test.true,
    )

pub loop-digit-preserved : goal.loop-digit-preserved
loop-digit-preserved c =
    omega (
      arith,
      c.loop-digit.invariant,
      c.in-Some.ensures,
      c.from.ensures,
      c.in-Some-checked_add.ensures,
      one_digit_more c.args.digits.now c.loop-digit.digit-index c.requires c.loop-digit-test.true,
    )
