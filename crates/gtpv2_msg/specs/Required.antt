-- The table of required information elements. Which elements are required is this gateway's own
-- choice.
use Rattle.std.specs.Prelude.{ℕ, Bool, true, false, List, [], ◌∷◌, if◌then◌else◌, ◌==◌}
use Rattle.gtpv2_ie.specs.declared.kind.IeKind.{IeKind}
use Rattle.gtpv2_ie.specs.declared.kind.IeKind.TheVariants as kinds
use Rattle.gtpv2_msg.specs.declared.table.Part.{Part}
use Rattle.gtpv2_msg.specs.declared.table.Part.TheVariants as parts

-- What a message must have, all of instance 0: elements before its Contexts, whether a Context must
-- be there, what each Context must have, and elements behind them.
pub record RequiredIes : Type 0 where
  pub before : List IeKind
  pub must : Bool
  pub inside : List Part
  pub after : List IeKind

abbrev pub row : List IeKind → Bool → List Part → List IeKind → RequiredIes
row before must inside after = record { before = before; must = must; inside = inside; after = after }

-- no Context must be there
abbrev pub only : List IeKind → RequiredIes
only before = row before false [] []

abbrev pub an : IeKind → Part
an kind = parts.Ie kind

-- The table, each row behind its message type (TS 29.274, table 6.1-1).
abbrev pub table : List (ℕ × RequiredIes)
table =
    (32, row (kinds.Imsi ∷ kinds.Fteid ∷ kinds.Pdn ∷ kinds.Ambr ∷ []) true (parts.AssignedEbi ∷ an kinds.Qos ∷ []) [])
    ∷ (33, only (kinds.Cause ∷ []))
    ∷ (34, row [] false (parts.AssignedEbi ∷ []) [])
    ∷ (35, only (kinds.Cause ∷ []))
    ∷ (37, only (kinds.Cause ∷ []))
    ∷ (95, row (kinds.Ebi ∷ []) true (an kinds.Ebi ∷ an kinds.Tft ∷ an kinds.Qos ∷ []) [])
    ∷ (96, row (kinds.Cause ∷ []) true (an kinds.Ebi ∷ an kinds.Cause ∷ []) [])
    ∷ (97, row [] true (an kinds.Ebi ∷ []) (kinds.Ambr ∷ []))
    ∷ (98, only (kinds.Cause ∷ []))
    ∷ (100, only (kinds.Cause ∷ []))
    ∷ (171, only (kinds.Cause ∷ []))
    ∷ (177, only (kinds.Cause ∷ []))
    ∷ []

abbrev pub row_in : List (ℕ × RequiredIes) → ℕ → RequiredIes
row_in [] kind = only []
row_in (entry ∷ entries) kind = if entry.0 == kind then entry.1 else row_in entries kind

-- the row of a message type: nothing is required of one that isn't in the table
unfoldable pub required : ℕ → RequiredIes
required kind = row_in table kind
