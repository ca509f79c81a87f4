-- A slot is a line's own one, or another.
use Rattle.std.proofs.Common.{◌≡◌, ℕ, ◌==◌, true, false, refl, subst, inl, inr, eqb}
use Rattle.std.proofs.lemmas.Bool.{cases_eq, eq-eqb, ne_eqb}

pub at_slot : (P : ℕ → Type 0) (own slot : ℕ) → P own → ((own == slot) ≡ false → P slot) → P slot
at_slot P own slot here there =
    elim (cases_eq own slot) [ inl same ↦ subst P same here | inr other ↦ there (ne_eqb own slot other) ]

pub eqb_same : (n : ℕ) → eqb n n ≡ true
eqb_same n = eq-eqb n n refl
