-- Epoch after epoch: what is told agrees with what is made, or differs first here.
use Rattle.std.proofs.Common.{◌≡◌, ℕ, suc, ◌+◌, List, [], ◌∷◌, ◌++◌, length, subst, arith}
use Rattle.demux.specs.Trace.{Meaning}
use Rattle.report_lines.specs.declared.entry.Entry.{Entry}
use Rattle.lawful_run.specs.Report.{EpochReport}
use Rattle.audit_core.specs.Entries.{effects_told, rows_told, slot_charged}
use Rattle.audit_core.specs.Sentences.{EffectsAre, RowsAre}
use Rattle.audit_core.specs.Agreeing.{AgreeBySlot, slot_effected}
use Rattle.audit_core.specs.Charges.{AgreeUpTo}

module _ {X : Type 0} (whose : X → ℕ) (told : ℕ → List X) (made : EpochReport → List X) where
  -- one epoch more agrees
  pub agree_more : (epoch : ℕ) (prefix : List EpochReport) (now : EpochReport) → AgreeUpTo whose told made epoch prefix
      → AgreeBySlot whose (told (epoch + length prefix)) (made now)
      → AgreeUpTo whose told made epoch (prefix ++ now ∷ [])
  agree_more epoch [] now each here =
      let at : epoch + 0 ≡ epoch = omega arith in
      (subst (λ k. AgreeBySlot whose (told k) (made now)) at here, tt)
  agree_more epoch (first ∷ prefix) now each here =
      let at : epoch + suc (length prefix) ≡ epoch + 1 + length prefix = omega arith in
      (each.0, agree_more (epoch + 1) prefix now each.1 (subst (λ k. AgreeBySlot whose (told k) (made now)) at here))

pub effects_all : (lines : List (List Meaning)) (entries : List Entry) (epoch : ℕ) (all : List EpochReport)
    → AgreeUpTo slot_effected (λ e. effects_told lines e entries) (λ (now : EpochReport). now.effects) epoch all
    → ((later : ℕ) → effects_told lines (epoch + length all + later) entries ≡ []) → EffectsAre lines entries epoch all
effects_all lines entries epoch [] each none = λ later.
    let at : epoch + 0 + later ≡ epoch + later = omega arith in
    subst (λ k. effects_told lines k entries ≡ []) at (none later)
effects_all lines entries epoch (now ∷ all) each none = (
  each.0,
  effects_all lines entries (epoch + 1) all each.1 (λ later.
      let at : epoch + suc (length all) + later ≡ epoch + 1 + length all + later = omega arith in
      subst (λ k. effects_told lines k entries ≡ []) at (none later)),
)

pub rows_all : (lines : List (List Meaning)) (entries : List Entry) (epoch : ℕ) (all : List EpochReport)
    → AgreeUpTo slot_charged (λ e. rows_told lines e entries) (λ (now : EpochReport). now.rows) epoch all
    → ((later : ℕ) → rows_told lines (epoch + length all + later) entries ≡ []) → RowsAre lines entries epoch all
rows_all lines entries epoch [] each none = λ later.
    let at : epoch + 0 + later ≡ epoch + later = omega arith in
    subst (λ k. rows_told lines k entries ≡ []) at (none later)
rows_all lines entries epoch (now ∷ all) each none = (
  each.0,
  rows_all lines entries (epoch + 1) all each.1 (λ later.
      let at : epoch + suc (length all) + later ≡ epoch + 1 + length all + later = omega arith in
      subst (λ k. rows_told lines k entries ≡ []) at (none later)),
)
