-- The lines of a report: an entry's text and a newline.
use Rattle.std.specs.Prelude.{◌==◌, ℕ, Bool, Option, None, Some, List, [], ◌∷◌, ◌++◌, find, flat_map, map}
use Rattle.bearer_state.specs.declared.version.ActiveBearer.{ActiveBearer}
use Rattle.charging_book.specs.Rows.{Counters}
use Rattle.report_lines.specs.Records.{Effected}
use Rattle.report_lines.specs.Text.{entry_text}
use Rattle.report_lines.specs.declared.entry.ChargeEntry.{ChargeEntry}
use Rattle.report_lines.specs.declared.entry.ChargeEntry.TheVariants.{O}
use Rattle.report_lines.specs.declared.entry.Entry.{Entry}
use Rattle.report_lines.specs.declared.entry.Entry.TheVariants as entry
use Rattle.report_lines.specs.declared.entry.LineEntry.{LineEntry}
use Rattle.lawful_run.specs.Report.{EpochReport, epoch_entries, texts_of}
use Rattle.subscriber.specs.Standing.{SubscriberState}

-- an entry as it stands, and a newline
abbrev pub line_of : Entry → List ℕ
line_of told = entry_text told ++ 10 ∷ []

-- entries of lines, effects and charges as texts, with places or without
abbrev pub lines_text : Bool → List LineEntry → List ℕ
lines_text places told = texts_of places (map entry.Line told)

abbrev pub effects_text : Bool → List Effected → List ℕ
effects_text places told = texts_of places (map entry.Effect told)

abbrev pub charges_text : Bool → List ChargeEntry → List ℕ
charges_text places told = texts_of places (map entry.Charge told)

-- what an epoch has behind the entries of its lines
abbrev pub closing_text : Bool → EpochReport → List ℕ
closing_text places told = effects_text places told.effects ++ charges_text places told.rows

-- what epochs have
abbrev pub epochs_text : Bool → List EpochReport → List ℕ
epochs_text places told = texts_of places (flat_map epoch_entries told)

-- the counters of a life among these, as entries
abbrev pub open_entry : ℕ → Option Counters → List ChargeEntry
open_entry slot (Some counters) = O slot counters ∷ []
open_entry slot None = []

abbrev pub open_for : ℕ → List Counters → ℕ → List ChargeEntry
open_for slot counted life = open_entry slot (find (λ (counters : Counters). counters.life == life) counted)

-- those that a subscriber holds of its active bearers, by index
abbrev pub opens_held : SubscriberState → List ChargeEntry
opens_held one = flat_map (λ (bearer : ActiveBearer).
    open_for one.session.slot one.counters.book.opens bearer.life) one.version.bearers
