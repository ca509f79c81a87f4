-- Versions whose numbers follow one another.
use Rattle.std.specs.Prelude.{◌≡◌, ℕ, ◌+◌, List, [], ◌∷◌, ◌++◌}

-- of two versions side by side the second has the number after the first's
abbrev pub AreConsecutive : {V : Type 0} → (V → ℕ) → List V → Type 0
AreConsecutive {V} number versions =
    (before : List V) (one : V) (next : V) (after : List V) → versions ≡ before ++ one ∷ next ∷ after
    → number next ≡ number one + 1

-- the version has the number after the last one's, if there is a last one
abbrev pub IsNext : {V : Type 0} → (V → ℕ) → List V → V → Type 0
IsNext {V} number versions version =
    (before : List V) (last : V) → versions ≡ before ++ last ∷ [] → number version ≡ number last + 1
