-- What a look at each earlier cost shows.
use Rattle.std.proofs.Common.{◌≡◌, ℕ, ◌+◌, ◌-◌, ◌*◌, ◌<◌, ◌≤◌, List, ◌∷◌, ◌++◌, length, get_or, take, drop, refl, ap, sym, ◌∙◌, subst, length-append, suc, arith, drop-cons}
use Rattle.std.proofs.Math.Seq.{get_or-append_seam, drop-append_seam}
use Rattle.std.proofs.lemmas.List.{take-append-drop}
use Rattle.rate_policer.specs.declared.cost.Cost.{Cost}
use Rattle.rate_policer.specs.Conforming.{burst, volume, Conforms}

-- a cost fits with these that passed since an earlier one, that one included
abbrev pub FitsSince : ℕ → Cost → Cost → List Cost → Type 0
FitsSince rate cost earlier since = cost.millibits + volume since ≤ burst rate + rate * (cost.at - earlier.at)

-- so it does with those from a place on
abbrev pub FitsFrom : ℕ → List Cost → Cost → ℕ → Type 0
FitsFrom rate passed cost place = (before after : List Cost) (earlier : Cost) → passed ≡ before ++ earlier ∷ after
    → length before ≡ place → FitsSince rate cost earlier (earlier ∷ after)

-- what the program computes at a place says that
pub fits_from : (rate : ℕ) (passed : List Cost) (cost earlier : Cost) (place : ℕ)
    → earlier ≡ get_or passed place earlier
    → FitsSince rate cost earlier (drop place passed) → FitsFrom rate passed cost place
fits_from rate passed cost item place is fits before after earlier e here =
    let rest : drop place passed ≡ earlier ∷ after =
    ap (drop place) e ∙ ap (λ n. drop n (before ++ earlier ∷ after)) (sym here)
    ∙ drop-append_seam before (earlier ∷ after) in
    let same : item ≡ earlier =
    is ∙ ap (λ xs. get_or xs place item) e ∙ ap (λ n. get_or (before ++ earlier ∷ after) n item) (sym here)
    ∙ get_or-append_seam before earlier after item in
    subst (λ (c : Cost). FitsSince rate cost c (earlier ∷ after)) same
    (subst (λ (since : List Cost). FitsSince rate cost item since) rest fits)

-- a cost conforms where it is within the burst and fits from each place
pub conforms_from : (rate : ℕ) (passed : List Cost) (cost : Cost) → cost.millibits ≤ burst rate
    → ((place : ℕ) → place < length passed → FitsFrom rate passed cost place) → Conforms rate passed cost
conforms_from rate passed cost alone each = record {
  alone = alone;
  since = λ before after earlier e.
      each (length before) (omega (arith, ap length e, length-append before (earlier ∷ after))) before after earlier e
      refl;
}

-- a conforming cost fits by what the program computes at each place
pub fits_at : (rate : ℕ) (passed : List Cost) (cost earlier : Cost) (place : ℕ) → Conforms rate passed cost
    → place < length passed → earlier ≡ get_or passed place earlier → FitsSince rate cost earlier (drop place passed)
fits_at rate passed cost earlier place conforms inside is =
    let rest : drop place passed ≡ earlier ∷ drop (suc place) passed =
    drop-cons passed place earlier inside ∙ ap (λ c. c ∷ drop (suc place) passed) (sym is) in
    let split : passed ≡ take place passed ++ earlier ∷ drop (suc place) passed =
    sym (take-append-drop place passed) ∙ ap (λ xs. take place passed ++ xs) rest in
    subst (λ (since : List Cost). FitsSince rate cost earlier since) (sym rest) (conforms.since _ _ earlier split)
