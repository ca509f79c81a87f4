-- The open counters of bearers among those that are counted.
use Rattle.std.specs.Prelude.{ℕ, ◌==◌, Option, Some, None, List, [], ◌∷◌, find}
use Rattle.charging_book.specs.Rows.{Counters}
use Rattle.report_lines.specs.declared.entry.ChargeEntry.{ChargeEntry}
use Rattle.report_lines.specs.declared.entry.ChargeEntry.TheVariants.{O}

abbrev pub open_of : ℕ → Counters → List ChargeEntry
open_of slot counters = O slot counters ∷ []

-- those of a life, where there are any
abbrev pub open_found : ℕ → Option Counters → List ChargeEntry
open_found slot None = []
open_found slot (Some counters) = open_of slot counters

abbrev pub open_for : ℕ → List Counters → ℕ → List ChargeEntry
open_for slot counted life = open_found slot (find (λ (counters : Counters). counters.life == life) counted)
