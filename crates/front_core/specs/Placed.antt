-- At which slices packets were handled, as it is told.
use Rattle.std.specs.Prelude.{ℕ, List, reverse, IfSome}
use Rattle.std.specs.List.{All}
use Rattle.report_lines.specs.declared.entry.LineEntry.{LineEntry}
use Rattle.report_lines.specs.declared.entry.LineEntry.TheVariants as line_entry
use Rattle.counter_half.specs.Half.{places_of}
use Rattle.counter_half.specs.Handled.{places_in}
use Rattle.counter_half.specs.declared.half.DataHalf.{DataHalf}
use Rattle.counter_half.specs.declared.items.DataItem.{DataItem}
use Rattle.gather_home.specs.DataPlaced.{IsPlaceBelow}
use Rattle.gather_home.specs.declared.data_home.Home.{Home}
use Rattle.front_core.specs.declared.answers.SlotAnswers.{SlotAnswers}

-- the halves that came home handled their packets at slices below a number
abbrev pub HomesBelow : ℕ → List (Home DataHalf DataItem) → Type 0
HomesBelow n homes = All (λ home. All (IsPlaceBelow n) (places_of home.half)) homes

-- so it is told of the packets of each slot, or that they were handled at the end of the epoch
abbrev pub AnswersBelow : ℕ → List SlotAnswers → Type 0
AnswersBelow n answers = All (λ (a : SlotAnswers). All (IsPlaceBelow n) (places_in (reverse a.packets.items))) answers

-- the place of a packet that an entry tells, if it tells one
abbrev pub IsEntryBelow : ℕ → LineEntry → Type 0
IsEntryBelow n (line_entry.N noted) = Unit {0}
IsEntryBelow n (line_entry.C answered) = Unit {0}
IsEntryBelow n (line_entry.P judged) = IfSome judged.place (IsPlaceBelow n)
IsEntryBelow n (line_entry.F refused) = Unit {0}
