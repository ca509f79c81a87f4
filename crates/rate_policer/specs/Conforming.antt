-- What a rate lets through, by the list of the costs that passed before.
use Rattle.std.specs.Prelude.{
  ◌≡◌,
  ℕ,
  ◌+◌,
  ◌-◌,
  ◌*◌,
  ◌≤◌,
  ◌==◌,
  ◌&&◌,
  ◌↔◌,
  nat_le,
  max,
  Bool,
  true,
  List,
  [],
  ◌∷◌,
  ◌++◌,
  sum_by,
  All,
  IsTrue,
  if◌then◌else◌,
}
use Rattle.rate_policer.specs.declared.cost.Cost.{Cost}

-- what an ask for these octets at this moment costs
abbrev pub cost_of : ℕ → ℕ → Cost
cost_of octets at = record { at = at; millibits = 8000 * octets }

-- the most that may pass at once, in millibits: what the rate brings in 100 ms, at least 3,000
-- octets, and nothing at rate 0
abbrev pub burst : ℕ → ℕ
burst rate = if rate == 0 then 0 else max (rate * 100000) 24000000

-- the sum of costs, in millibits
abbrev pub volume : List Cost → ℕ
volume costs = sum_by (λ cost. cost.millibits) costs

-- a cost is within the burst, and together with all that passed since any earlier cost it is within
-- the burst and what the rate has brought since that cost
pub record Conforms (rate : ℕ) (passed : List Cost) (cost : Cost) : Type 0 where
  pub alone : cost.millibits ≤ burst rate
  pub since : (before after : List Cost) (earlier : Cost) → passed ≡ before ++ earlier ∷ after
      → cost.millibits + volume (earlier ∷ after) ≤ burst rate + rate * (cost.at - earlier.at)

-- the same as a test: what passed from each earlier cost on fits with the cost
abbrev pub fits_each : ℕ → List Cost → Cost → Bool
fits_each rate [] cost = true
fits_each rate (earlier ∷ after) cost =
    nat_le (cost.millibits + volume (earlier ∷ after)) (burst rate + rate * (cost.at - earlier.at))
    && fits_each rate after cost

-- whether a cost conforms
unfoldable pub conforms : ℕ → List Cost → Cost → Bool
conforms rate passed cost = nat_le cost.millibits (burst rate) && fits_each rate passed cost

-- the test answers what conforming is
abbrev pub ConformingIsTested : Type 0
ConformingIsTested =
    (rate : ℕ) (passed : List Cost) (cost : Cost) → IsTrue (conforms rate passed cost) ↔ Conforms rate passed cost

-- each cost conformed to those that passed before it
abbrev pub ArePoliced : ℕ → List Cost → Type 0
ArePoliced rate passed =
    (before after : List Cost) (cost : Cost) → passed ≡ before ++ cost ∷ after → Conforms rate before cost

-- a list stays policed where a conforming cost passes
abbrev pub PolicedListsGrow : Type 0
PolicedListsGrow = (rate : ℕ) (passed : List Cost) (cost : Cost) → ArePoliced rate passed → Conforms rate passed cost
    → ArePoliced rate (passed ++ cost ∷ [])

-- from any cost that passed to any later one, both included, no more passed than the burst and what
-- the rate brought from the one to the other
abbrev pub NoWindowPassesMore : Type 0
NoWindowPassesMore = (rate : ℕ) (passed before between after : List Cost) (first last : Cost) → ArePoliced rate passed
    → passed ≡ before ++ first ∷ between ++ last ∷ after
    → volume (first ∷ between ++ last ∷ []) ≤ burst rate + rate * (last.at - first.at)

-- nor from any moment to any later one
abbrev pub NoTimePassesMore : Type 0
NoTimePassesMore = (rate : ℕ) (passed before window after : List Cost) (from to : ℕ) → ArePoliced rate passed
    → passed ≡ before ++ window ++ after → All (λ cost. (from ≤ cost.at) × (cost.at ≤ to)) window
    → volume window ≤ burst rate + rate * (to - from)
