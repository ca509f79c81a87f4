-- A bucket as contracts see it, and the lists of passed costs that it represents.
use Rattle.std.specs.Prelude.{ℕ, ◌+◌, ◌-◌, ◌*◌, ◌≤◌, ◌↔◌, nat_le, min, Bool, List, All, if◌then◌else◌}
use Rattle.rate_policer.specs.declared.cost.Cost.{Cost}
use Rattle.rate_policer.specs.Conforming.{burst, Conforms}

-- a rate, and the level in millibits at the moment of the last ask
pub record BucketState : Type 0 where
  pub rate : ℕ
  pub level : ℕ
  pub last : ℕ

-- the rate of a bucket · its level · the moment of its last ask
abbrev pub rate_of : BucketState → ℕ
rate_of bucket = bucket.rate

abbrev pub level_of : BucketState → ℕ
level_of bucket = bucket.level

abbrev pub last_of : BucketState → ℕ
last_of bucket = bucket.last

-- the bucket of a rate that nothing passed yet: full at moment 0
abbrev pub full_bucket : ℕ → BucketState
full_bucket rate = record { rate = rate; level = burst rate; last = 0 }

-- the level at a moment: what the rate has brought since the last ask is added, up to the burst
abbrev pub level_at : BucketState → ℕ → ℕ
level_at bucket at = min (burst bucket.rate) (bucket.level + bucket.rate * (at - bucket.last))

-- a cost is within the level at its moment
abbrev pub LetsThrough : BucketState → Cost → Type 0
LetsThrough bucket cost = cost.millibits ≤ level_at bucket cost.at

-- the same as a test
abbrev pub lets_through : BucketState → Cost → Bool
lets_through bucket cost = nat_le cost.millibits (level_at bucket cost.at)

-- the bucket behind an ask: what passes is taken off the level
abbrev pub asked : BucketState → Cost → BucketState
asked bucket cost = record {
  rate = bucket.rate;
  level = if lets_through bucket cost then level_at bucket cost.at - cost.millibits else level_at bucket cost.at;
  last = cost.at;
}

-- these costs passed; from its last ask on the bucket lets through just what conforms to them, and its level is at most
-- the burst
pub record StandsFor (bucket : BucketState) (passed : List Cost) : Type 0 where
  pub past : All (λ cost. cost.at ≤ bucket.last) passed
  pub level : bucket.level ≤ burst bucket.rate
  pub same : (cost : Cost) → bucket.last ≤ cost.at → LetsThrough bucket cost ↔ Conforms bucket.rate passed cost
