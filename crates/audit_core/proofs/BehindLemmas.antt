-- Behind all epochs nothing is told where effects and records are those that are made.
use Rattle.std.proofs.Common.{◌≡◌, ℕ, ◌+◌, List, [], ◌∷◌, length, subst, arith}
use Rattle.demux.specs.Trace.{Meaning}
use Rattle.report_lines.specs.declared.entry.Entry.{Entry}
use Rattle.lawful_run.specs.Report.{EpochReport}
use Rattle.audit_core.specs.Entries.{effects_told, rows_told}
use Rattle.audit_core.specs.Sentences.{EffectsAre, RowsAre}

module _ (lines : List (List Meaning)) (entries : List Entry) where
  pub effects_behind : (i : ℕ) (reports : List EpochReport) → EffectsAre lines entries i reports → (later : ℕ)
      → effects_told lines (i + length reports + later) entries ≡ []
  effects_behind i [] are later =
      let at : i + later ≡ i + 0 + later = omega arith in
      subst (λ k. effects_told lines k entries ≡ []) at (are later)
  effects_behind i (now ∷ reports) are later =
      let at : i + 1 + length reports + later ≡ i + length (now ∷ reports) + later = omega arith in
      subst (λ k. effects_told lines k entries ≡ []) at (effects_behind (i + 1) reports are.1 later)

  pub rows_behind : (i : ℕ) (reports : List EpochReport) → RowsAre lines entries i reports → (later : ℕ)
      → rows_told lines (i + length reports + later) entries ≡ []
  rows_behind i [] are later =
      let at : i + later ≡ i + 0 + later = omega arith in
      subst (λ k. rows_told lines k entries ≡ []) at (are later)
  rows_behind i (now ∷ reports) are later =
      let at : i + 1 + length reports + later ≡ i + length (now ∷ reports) + later = omega arith in
      subst (λ k. rows_told lines k entries ≡ []) at (rows_behind (i + 1) reports are.1 later)
