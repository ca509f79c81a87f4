-- What the halves of one slot handled.
use Rattle.std.specs.Prelude.{ℕ, ◌==◌, if◌then◌else◌, List, [], ◌∷◌, ◌++◌, map, Option, Some, None}
use Rattle.std.specs.List.{sum_by}

-- those of the slot s, in order
abbrev pub pick : {A : Type 0} → ℕ → List ℕ → List A → List A
pick s [] xs = []
pick s (t ∷ slots) [] = []
pick s (t ∷ slots) (x ∷ xs) = if t == s then x ∷ pick s slots xs else pick s slots xs

-- the items that each half of a slot handled
abbrev pub lists_of : {H I : Type 0} → (H → ℕ) → (H → List I) → ℕ → List H → List (List I)
lists_of slot handled s halves = pick s (map slot halves) (map handled halves)

-- what numbers of the halves of a slot add up to
abbrev pub slot_sum : {H : Type 0} → (H → ℕ) → ℕ → (H → ℕ) → List H → ℕ
slot_sum slot s g halves = sum_by (λ half. if slot half == s then g half else 0) halves

-- what a half of the slot s has handled, where a kept item of the slot counts as handled
abbrev pub with_kept : {I : Type 0} → (I → ℕ) → ℕ → Option I → List I → List I
with_kept item_slot s None items = items
with_kept item_slot s (Some x) items = if item_slot x == s then items ++ x ∷ [] else items
