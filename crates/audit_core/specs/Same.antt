-- Lists that are the same up to a place.
use Rattle.std.specs.Prelude.{◌≡◌, ◌≢◌, ℕ, ◌<◌, ◌≤◌, Option, List, length, take, drop}
use Rattle.std.specs.Option.{option_map}
use Rattle.report_lines.specs.declared.entry.Entry.{Entry}
use Rattle.audit_core.specs.Places.{first_of}
use Rattle.audit_core.specs.Telling.{said_of}
use Rattle.audit_core.specs.declared.telling.SaidEntry.{SaidEntry}

-- so many items are the same, and the next ones differ unless all that were made are told
pub record SameUpTo {X : Type 0} (told made : List X) (count : ℕ) : Type 0 where
  pub in_told : count ≤ length told
  pub in_made : count ≤ length made
  pub same : take count told ≡ take count made
  pub differ : count < length made → first_of (drop count told) ≢ first_of (drop count made)

-- the entry of the item at a place, where there is one
abbrev pub said_at : {X : Type 0} → (X → Entry) → List X → ℕ → Option SaidEntry
said_at as_entry items at = option_map said_of (option_map as_entry (first_of (drop at items)))
