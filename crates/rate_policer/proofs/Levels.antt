-- Levels of a bucket at several moments.
use Rattle.std.proofs.Common.{◌≡◌, ℕ, ◌+◌, ◌-◌, ◌*◌, ◌≤◌, ◌↔◌, ap, sym, ◌∙◌, min, arith}
use Rattle.std.proofs.Math.Nat.{mul-add, le-min}
use Rattle.rate_policer.specs.Conforming.{burst}
use Rattle.rate_policer.specs.Buckets.{BucketState, level_at}

-- what a rate brings from one moment to another, by a moment between them
pub brought-between : (rate from mid to : ℕ) → from ≤ mid → mid ≤ to
    → rate * (to - from) ≡ rate * (mid - from) + rate * (to - mid)
brought-between rate from mid to low high =
    let parts : to - from ≡ (mid - from) + (to - mid) = omega arith in
    ap (λ micros. rate * micros) parts ∙ mul-add rate (mid - from) (to - mid)

pub min-min : (most level first then : ℕ)
    → min most (min most (level + first) + then) ≡ min most (level + (first + then))
min-min most level first then = omega arith

-- a level that has moved on is the same at each later moment
pub level_at-moved : (bucket : BucketState) (at later : ℕ) → bucket.last ≤ at → at ≤ later
    → level_at (record { rate = bucket.rate; level = level_at bucket at; last = at }) later ≡ level_at bucket later
level_at-moved bucket at later low high =
    min-min (burst bucket.rate) bucket.level (bucket.rate * (at - bucket.last)) (bucket.rate * (later - at))
    ∙ ap (λ brought. min (burst bucket.rate) (bucket.level + brought))
    (sym (brought-between bucket.rate bucket.last at later low high))

-- a cost is within what a charge left and what was brought since, where both together, less what was
-- brought, were within the level
pub within_charged : (most level cost charge brought : ℕ) → charge ≤ level → level ≤ most
    → (cost ≤ min most (level - charge + brought)) ↔ ((cost ≤ most) × (cost + charge - brought ≤ level))
within_charged most level cost charge brought fits below =
    (λ within. (omega arith, omega arith), λ parts. le-min parts.0 (omega arith))
