-- The test of conforming answers what conforming is.
use Rattle.std.proofs.Common.{◌≡◌, ℕ, ◌+◌, ◌-◌, ◌*◌, ◌≤◌, ◌↔◌, ◌&&◌, Bool, true, false, IsTrue, List, [], ◌∷◌, ◌++◌, length, refl, ap, sym, subst, length-append, arith}
use Rattle.std.proofs.lemmas.Bool.{le-leb, leb-true}
use Rattle.rate_policer.specs.declared.cost.Cost.{Cost}
use Rattle.rate_policer.specs.Conforming.{burst, volume, fits_each, conforms, ConformingIsTested}
use Rattle.rate_policer.specs.Buckets.{BucketState, StandsFor, LetsThrough}
use Rattle.rate_policer.proofs.Looking.{FitsSince}

both : (a b : Bool) → a ≡ true → b ≡ true → (a && b) ≡ true
both true b first second = second
both false b first second = first

parts : (a b : Bool) → (a && b) ≡ true → (a ≡ true) × (b ≡ true)
parts true b whole = (refl, whole)
parts false b whole = (cc)

-- a cost fits with what passed since each earlier one
abbrev FitsEach : ℕ → List Cost → Cost → Type 0
FitsEach rate passed cost = (before after : List Cost) (earlier : Cost) → passed ≡ before ++ earlier ∷ after
    → FitsSince rate cost earlier (earlier ∷ after)

each_from : (rate : ℕ) (passed : List Cost) (cost : Cost) → fits_each rate passed cost ≡ true
    → FitsEach rate passed cost
each_from rate [] cost fits before after earlier e =
    absurd (omega (arith, ap length e, length-append before (earlier ∷ after)))
each_from rate (x ∷ xs) cost fits [] after earlier e =
    let here = leb-true (cost.millibits + volume (x ∷ xs)) (burst rate + rate * (cost.at - x.at)) (parts _ _ fits).0 in
    let first : x ≡ earlier = cc in
    let rest : xs ≡ after = cc in
    subst (λ (c : Cost). FitsSince rate cost c (c ∷ after)) first
    (subst (λ (since : List Cost). FitsSince rate cost x (x ∷ since)) rest here)
each_from rate (x ∷ xs) cost fits (y ∷ ys) after earlier e =
    let rest : xs ≡ ys ++ earlier ∷ after = cc in
    each_from rate xs cost (parts _ _ fits).1 ys after earlier rest

from_each : (rate : ℕ) (passed : List Cost) (cost : Cost) → FitsEach rate passed cost
    → fits_each rate passed cost ≡ true
from_each rate [] cost each = refl
from_each rate (x ∷ xs) cost each =
    both _ _ (le-leb (cost.millibits + volume (x ∷ xs)) (burst rate + rate * (cost.at - x.at)) (each [] xs x refl))
    (from_each rate xs cost (λ before after earlier e. each (x ∷ before) after earlier (ap (λ ys. x ∷ ys) e)))

pub conforming_tested : ConformingIsTested
unfolding conforms
conforming_tested rate passed cost = (
  λ yes.
      let both_hold = parts _ _ yes in
      record {
        alone = leb-true cost.millibits (burst rate) both_hold.0;
        since = each_from rate passed cost both_hold.1;
      },
  λ conforms. both _ _ (le-leb cost.millibits (burst rate) conforms.alone) (from_each rate passed cost conforms.since),
)

-- two answers to one question are the same
pub same_answer : {P : Type 0} (a b : Bool) → IsTrue a ↔ P → IsTrue b ↔ P → a ≡ b
same_answer true true first second = refl
same_answer true false first second = sym (second.1 (first.0 refl))
same_answer false true first second = first.1 (second.0 refl)
same_answer false false first second = refl

-- what a bucket lets through is what the test passes
pub letting_tested : (bucket : BucketState) (passed : List Cost) (cost : Cost) (lets : Bool)
    → StandsFor bucket passed → bucket.last ≤ cost.at
    → IsTrue lets ↔ LetsThrough bucket cost → lets ≡ conforms bucket.rate passed cost
letting_tested bucket passed cost lets stands late told =
    let same = stands.same cost late in
    let tested = conforming_tested bucket.rate passed cost in
    same_answer lets (conforms bucket.rate passed cost) told (
      λ yes. same.1 (tested.0 yes),
      λ through. tested.1 (same.0 through),
    )
