use Rattle.std.proofs.Common.{refl, sym, ap, ◌∙◌, arith}
use Rattle.std.proofs.lemmas.List.{take_all}
use Rattle.std.specs.Char.{is_ascii_digit}
use Rattle.std.specs.List.{list_all}
use Rattle.std.specs.Str.Parse.{digits_value}
use Rattle.text_fields.proofs.DigitLemmas.{counted_more, short_fits}
use Rattle.text_fields.proofs.number.short_value.Goals as goal

pub loop-digit-init : goal.loop-digit-init
loop-digit-init c = record { digits = refl; value = refl; small = omega arith }

pub overflow_mul-number : goal.overflow_mul-number
overflow_mul-number c = record {
  fits = omega (arith, short_fits c.loop-digit.number c.loop-digit.digit-index (omega arith) c.loop-digit.invariant.small);
}

pub overflow_add-number : goal.overflow_add-number
overflow_add-number c = record {
  fits = omega (
    arith,
    c.from.ensures,
    short_fits c.loop-digit.number c.loop-digit.digit-index (omega arith) c.loop-digit.invariant.small,
  );
}

pub loop-digit-preserved : goal.loop-digit-preserved
loop-digit-preserved c =
    let kept = c.loop-digit.invariant in
    let at = c.loop-digit.digit-index in
    counted_more c.args.text.now c.loop-digit.number at _ kept.digits kept.value kept.small c.loop-digit-test.true
    (c.type_inv.text at).fits c.from.ensures (omega arith)

pub returns : goal.returns
returns c =
    let whole = take_all c.loop-digit.digit-index c.args.text.now (omega arith) in (
      ap (list_all is_ascii_digit) (sym whole) ∙ c.loop-digit.invariant.digits,
      c.loop-digit.invariant.value ∙ ap (digits_value 10) whole,
    )
