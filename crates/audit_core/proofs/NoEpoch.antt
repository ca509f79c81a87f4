-- Where there are epochs, nothing that is told belongs to one that there isn't.
use Rattle.std.proofs.Common.{◌≡◌, ℕ, suc, ◌+◌, ◌-◌, ◌<◌, ◌≤◌, ◌⊎◌, Bool, true, false, cond, Option, Some, None, List, [], ◌∷◌, ◌++◌, length, length-append, refl, ap, ◌∙◌, inl, inr, arith}
use Rattle.std.specs.Prelude.{nat_le}
use Rattle.std.specs.List.{All, cons_option, filter_map}
use Rattle.std.proofs.lemmas.Bool.{leb-false, ne_eqb}
use Rattle.std.proofs.lemmas.List.Elements.{All-head, All-tail}
use Rattle.demux.specs.Trace.{Meaning}
use Rattle.report_lines.specs.declared.entry.ChargeEntry.TheVariants as charge
use Rattle.report_lines.specs.declared.entry.Entry.{Entry}
use Rattle.report_lines.specs.declared.entry.Entry.TheVariants as entry
use Rattle.audit_core.specs.Entries.{all_lines, effect_in, effects_told, epoch_at, epoch_behind, line_of, row_in, rows_told, told_in_epoch}

-- the entry of a line answers one of so many
abbrev pub IsLine : ℕ → Entry → Type 0
IsLine most (entry.Line of_line) = (1 ≤ line_of of_line) × (line_of of_line ≤ most)
IsLine most (entry.Effect effect) = Unit {0}
IsLine most (entry.Charge charge) = Unit {0}

-- an entry's epoch: one that there is, or the first
abbrev IsEpoch : List (List Meaning) → ℕ → Type 0
IsEpoch made epoch = (epoch ≡ 0) ⊎ (epoch < length made)

pub at_below : (made : List (List Meaning)) (n : ℕ) → 1 ≤ n → n ≤ length (all_lines made) → epoch_at made n < length made
at_below [] n least most = absurd (omega arith)
at_below (lines ∷ made) n least most =
    by_place (nat_le n (length lines)) refl (λ low high. at_below made (n - length lines) low high)
  where
    by_place : (here : Bool) → nat_le n (length lines) ≡ here
        → (1 ≤ n - length lines → n - length lines ≤ length (all_lines made)
        → epoch_at made (n - length lines) < length made)
        → cond here 0 (epoch_at made (n - length lines) + 1) < suc (length made)
    by_place true is behind = omega arith
    by_place false is behind =
        let past : length lines < n = leb-false n (length lines) is in
        let count : length (all_lines (lines ∷ made)) ≡ length lines + length (all_lines made) =
        length-append lines (all_lines made) in
        omega (arith, behind (omega (arith, past)) (omega (arith, count, most, past)))

at_is : (made : List (List Meaning)) (n : ℕ) → 1 ≤ n → n ≤ length (all_lines made) → IsEpoch made (epoch_at made n)
at_is [] n least most = inl refl
at_is (lines ∷ made) n least most = inr (at_below (lines ∷ made) n least most)

behind_is : (made : List (List Meaning)) (now : ℕ) (one : Entry) → IsLine (length (all_lines made)) one
    → IsEpoch made now → IsEpoch made (epoch_behind made now one)
behind_is made now (entry.Line of_line) known here = at_is made (line_of of_line) known.0 known.1
behind_is made now (entry.Effect effect) known here = here
behind_is made now (entry.Charge charged) known here = here

module _ {X : Type 0} (belongs : ℕ → Entry → Option X) (epoch : ℕ)
    (only : (now : ℕ) (one : Entry) → (now ≡ epoch → ⊥) → belongs now one ≡ None) (made : List (List Meaning))
    (apart : (now : ℕ) → IsEpoch made now → now ≡ epoch → ⊥) where
  none_told : (now : ℕ) (entries : List Entry) → All (IsLine (length (all_lines made))) entries → IsEpoch made now
      → told_in_epoch belongs made now entries ≡ []
  none_told now [] known here = refl
  none_told now (first ∷ later) known here =
      let next = epoch_behind made now first in
      let head : filter_map (belongs now) (first ∷ []) ≡ [] =
      ap (λ o. cons_option o []) (only now first (apart now here)) in
      ap (λ (prefix : List X). prefix ++ told_in_epoch belongs made next later) head
      ∙ none_told next later (All-tail (IsLine (length (all_lines made))) first later known)
      (behind_is made now first (All-head (IsLine (length (all_lines made))) first later known) here)

only_effects : (epoch now : ℕ) (one : Entry) → (now ≡ epoch → ⊥) → effect_in epoch now one ≡ None
only_effects epoch now (entry.Line of_line) other = refl
only_effects epoch now (entry.Effect effect) other =
    ap (λ own. cond own (Some effect) None) (ne_eqb now epoch other)
only_effects epoch now (entry.Charge charged) other = refl

only_rows : (epoch now : ℕ) (one : Entry) → (now ≡ epoch → ⊥) → row_in epoch now one ≡ None
only_rows epoch now (entry.Line of_line) other = refl
only_rows epoch now (entry.Effect effect) other = refl
only_rows epoch now (entry.Charge (charge.R slot row)) other =
    ap (λ own. cond own (Some (charge.R slot row)) None) (ne_eqb now epoch other)
only_rows epoch now (entry.Charge (charge.O slot counters)) other = refl

-- neither the first epoch nor one that there is
beyond_all : (made : List (List Meaning)) (count later now : ℕ) → length made ≡ count → 0 < count + later
    → IsEpoch made now → now ≡ count + later → ⊥
beyond_all made count later now many some (inl first) is = omega (arith, some, first, is)
beyond_all made count later now many some (inr low) is = omega (arith, many, low, is)

module _ (made : List (List Meaning)) (entries : List Entry) (count : ℕ) (many : length made ≡ count)
    (known : All (IsLine (length (all_lines made))) entries) where
  pub no_effects : (later : ℕ) → 0 < count + later → effects_told made (count + later) entries ≡ []
  no_effects later some =
      none_told (effect_in (count + later)) (count + later) (only_effects (count + later)) made
      (λ now here. beyond_all made count later now many some here) 0 entries known (inl refl)

  pub no_rows : (later : ℕ) → 0 < count + later → rows_told made (count + later) entries ≡ []
  no_rows later some =
      none_told (row_in (count + later)) (count + later) (only_rows (count + later)) made
      (λ now here. beyond_all made count later now many some here) 0 entries known (inl refl)
