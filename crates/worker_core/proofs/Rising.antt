-- Counts that rise, one step after another.
use Rattle.std.proofs.Common.{◌≡◌, ℕ, ◌-◌, ◌^◌, ◌<◌, ◌≤◌, inl, inr, true, false, refl, sym, subst, arith}
use Rattle.std.specs.Prelude.{nat_lt}
use Rattle.std.proofs.lemmas.Bool.{ltb-true, ltb-false}
use Rattle.lane_core.specs.Ends.{raised}
use Rattle.worker_core.specs.Counts.{Rises, Lasts}

pub rises_raised : (old new : ℕ) → new ≡ raised old → Rises old new
rises_raised old new e = elim (nat_lt old (2 ^ 64 - 1)) as (λ b. nat_lt old (2 ^ 64 - 1) ≡ b → Rises old new) [
  | true ↦ λ low. let l : old < 2 ^ 64 - 1 = ltb-true old (2 ^ 64 - 1) low in inl (omega arith)
  | false ↦ λ high. let h : 2 ^ 64 - 1 ≤ old = ltb-false old (2 ^ 64 - 1) high in inr (omega arith)
] refl

pub rises_then : (first before now : ℕ) → Rises first before → Lasts before now → Rises first now
rises_then first before now rise more = elim more [
  | inl same ↦ subst (Rises first) (sym same) rise
  | inr again ↦ elim rise [
    | inl low ↦ elim again [
      | inl higher ↦ inl (omega arith)
      | inr last ↦ inr last
    ]
    | inr last ↦ elim again [
      | inl higher ↦ inr (omega arith)
      | inr ends ↦ inr ends
    ]
  ]
]

pub then_rises : (first before now : ℕ) → Lasts first before → Rises before now → Rises first now
then_rises first before now earlier again = elim earlier [
  | inl same ↦ subst (λ (n : ℕ). Rises n now) same again
  | inr rise ↦ rises_then first before now rise (inr again)
]

pub lasts_then : (first before now : ℕ) → Lasts first before → Lasts before now → Lasts first now
lasts_then first before now earlier more = elim more [
  | inl same ↦ subst (Lasts first) (sym same) earlier
  | inr again ↦ inr (then_rises first before now earlier again)
]

pub lasts_raised : (old new : ℕ) → new ≡ raised old → Lasts old new
lasts_raised old new e = inr (rises_raised old new e)
