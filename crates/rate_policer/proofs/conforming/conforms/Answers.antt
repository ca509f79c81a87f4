use Rattle.std.proofs.Common.{◌<◌, sym, ◌∙◌, refl, below_more, arith}
use Rattle.std.proofs.lemmas.List.{take_rest}
use Rattle.rate_policer.specs.Conforming.{burst}
use Rattle.rate_policer.proofs.Looking.{fits_at, fits_from, conforms_from}
use Rattle.rate_policer.proofs.Testing.{same_answer, conforming_tested}
use Rattle.rate_policer.proofs.conforming.conforms.Goals as goal

pub returns-then-not-fits_since-clause-conforms : goal.returns-then-not-fits_since-clause-conforms
returns-then-not-fits_since-clause-conforms c =
    let fits = fits_at c.args.rate c.args.passed.now c.args.cost c.index-passed-place.result c.loop-place.place in (
      λ no. cc,
      λ conforms. sym c.if-not-fits_since.true
          ∙ c.fits_since.ensures.1 (rw take_rest (fits conforms c.loop-place-test.true c.index-passed-place.is)),
    )

pub loop-place-preserved : goal.loop-place-preserved
loop-place-preserved c = below_more _ _ c.loop-place.invariant
    (fits_from c.args.rate c.args.passed.now c.args.cost c.index-passed-place.result c.loop-place.place
    c.index-passed-place.is
    (rw take_rest at (c.fits_since.ensures.0 c.if-not-fits_since.false)))

pub returns-clause-conforms : goal.returns-clause-conforms
returns-clause-conforms c = (
  λ yes. conforms_from c.args.rate c.args.passed.now c.args.cost
      (omega (arith, c.burst.ensures.value, c.if-cost-burst.false))
      (λ place inside. c.loop-place.invariant place (omega (arith, inside, c.loop-place-test.false))),
  λ conforms. refl,
)

pub returns-then-not-fits_since-clause-tested : goal.returns-then-not-fits_since-clause-tested
returns-then-not-fits_since-clause-tested c =
    same_answer _ _ (returns-then-not-fits_since-clause-conforms c)
    (conforming_tested c.args.rate c.args.passed.now c.args.cost)

pub returns-clause-tested : goal.returns-clause-tested
returns-clause-tested c =
    same_answer _ _ (returns-clause-conforms c) (conforming_tested c.args.rate c.args.passed.now c.args.cost)

pub returns-then-cost-burst-clause-tested : goal.returns-then-cost-burst-clause-tested
returns-then-cost-burst-clause-tested c =
    let above : burst c.args.rate < c.args.cost.millibits =
    omega (arith, c.burst.ensures.value, c.if-cost-burst.true) in
    same_answer _ _ (λ no. absurd (cc), λ conforms. absurd (omega (arith, conforms.alone, above)))
    (conforming_tested c.args.rate c.args.passed.now c.args.cost)
