-- A bucket that was asked by its parts alone answers by what it represents.
use Rattle.std.proofs.Common.{◌≡◌, ◌≤◌, ◌-◌, Bool, true, false, MatchBool, List, ◌∷◌, ◌++◌, [], refl, if◌then◌else◌}
use Rattle.std.proofs.lemmas.Bool.{le-leb, leb-true}
use Rattle.rate_policer.specs.declared.cost.Cost.{Cost}
use Rattle.rate_policer.specs.Conforming.{conforms}
use Rattle.rate_policer.specs.Buckets.{BucketState, StandsFor, asked, level_at, lets_through}
use Rattle.rate_policer.proofs.Standing.{stands_charged, stands_moved}
use Rattle.rate_policer.proofs.Testing.{letting_tested}

-- whether a cost passes is what conforms
pub asked_tells : (b : BucketState) (passed : List Cost) (cost : Cost) → StandsFor b passed → b.last ≤ cost.at
    → lets_through b cost ≡ conforms b.rate passed cost
asked_tells b passed cost stands late =
    letting_tested b passed cost (lets_through b cost) stands late (
      λ yes. leb-true cost.millibits (level_at b cost.at) yes,
      λ lets. le-leb cost.millibits (level_at b cost.at) lets,
    )

-- and it represents what passed with it
charged_by : (b : BucketState) (passed : List Cost) (cost : Cost) → StandsFor b passed → b.last ≤ cost.at
    → (lets : Bool) → lets_through b cost ≡ lets
    → MatchBool lets (StandsFor (record {
      rate = b.rate;
      level = if lets then level_at b cost.at - cost.millibits else level_at b cost.at;
      last = cost.at;
    }) (passed ++ cost ∷ []))
    (StandsFor (record {
      rate = b.rate;
      level = if lets then level_at b cost.at - cost.millibits else level_at b cost.at;
      last = cost.at;
    }) passed)
charged_by b passed cost stands late true is =
    stands_charged b passed cost b.rate (level_at b cost.at) stands late
    (leb-true cost.millibits (level_at b cost.at) is) refl refl
charged_by b passed cost stands late false is =
    stands_moved b passed cost.at b.rate (level_at b cost.at) stands late refl refl

pub asked_stands : (b : BucketState) (passed : List Cost) (cost : Cost) → StandsFor b passed → b.last ≤ cost.at
    → MatchBool (lets_through b cost) (StandsFor (asked b cost) (passed ++ cost ∷ [])) (StandsFor (asked b cost) passed)
asked_stands b passed cost stands late = charged_by b passed cost stands late (lets_through b cost) refl
