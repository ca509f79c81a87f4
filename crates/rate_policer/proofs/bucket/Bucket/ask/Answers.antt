use Rattle.std.proofs.Common.{◌≡◌, true, false, ap, refl, arith}
use Rattle.rate_policer.specs.Conforming.{cost_of}
use Rattle.rate_policer.specs.Buckets.{LetsThrough}
use Rattle.rate_policer.proofs.Standing.{stands_moved, stands_charged}
use Rattle.rate_policer.proofs.Testing.{letting_tested}
use Rattle.rate_policer.proofs.bucket.Bucket.ask.Goals as goal

pub returns-then-millibits-level-clause-charged : goal.returns-then-millibits-level-clause-charged
returns-then-millibits-level-clause-charged c = λ passed stands.
    let cost = cost_of c.args.octets c.args.at in
    let millibits : c.of-millibits.result.millibits ≡ cost.millibits
    = ap (λ cost. cost.millibits) c.of-millibits.ensures in
    let lets : LetsThrough c.args.self.now cost
    = omega (arith, millibits, c.level_at-level.ensures, c.if-millibits-level.true) in
    rw millibits
    (stands_charged c.args.self.now passed cost c.self.inside.rate c.level_at-level.result stands c.requires lets
    (ap (λ bucket. bucket.rate) c.self.view_is) c.level_at-level.ensures)

pub returns-clause-charged : goal.returns-clause-charged
returns-clause-charged c = λ passed stands.
    stands_moved c.args.self.now passed c.args.at c.self.inside.rate c.level_at-level.result stands c.requires
    (ap (λ bucket. bucket.rate) c.self.view_is) c.level_at-level.ensures

pub returns-then-millibits-level-clause-tested : goal.returns-then-millibits-level-clause-tested
returns-then-millibits-level-clause-tested c = λ passed stands.
    let cost = cost_of c.args.octets c.args.at in
    let millibits : c.of-millibits.result.millibits ≡ cost.millibits =
    ap (λ cost. cost.millibits) c.of-millibits.ensures in
    let lets : LetsThrough c.args.self.now cost = omega (
      arith,
      millibits,
      c.level_at-level.ensures,
      c.if-millibits-level.true,
    ) in
    letting_tested c.args.self.now passed cost true stands c.requires (λ yes. lets, λ through. refl)

pub returns-clause-tested : goal.returns-clause-tested
returns-clause-tested c = λ passed stands.
    let cost = cost_of c.args.octets c.args.at in
    let millibits : c.of-millibits.result.millibits ≡ cost.millibits =
    ap (λ cost. cost.millibits) c.of-millibits.ensures in
    letting_tested c.args.self.now passed cost false stands c.requires (
      λ yes. absurd (cc),
      λ through. absurd (omega (
        arith,
        through,
        millibits,
        c.level_at-level.ensures,
        c.if-millibits-level.false,
      )),
    )
