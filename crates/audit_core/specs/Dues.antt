-- The entries that a report has to have, as the program holds them.
use Rattle.std.specs.Prelude.{◌≡◌, ◌≢◌, ℕ, IfSome, IfNone, Option, Some, List, ◌∷◌, ◌++◌, All, length, map, drop}
use Rattle.demux.specs.Trace.{Meaning}
use Rattle.report_lines.specs.Records.{Effected}
use Rattle.report_lines.specs.declared.entry.ChargeEntry.{ChargeEntry}
use Rattle.report_lines.specs.declared.entry.Entry.{Entry}
use Rattle.report_lines.specs.declared.entry.Entry.TheVariants as entry
use Rattle.lawful_run.specs.LinesTold.{LineTold}
use Rattle.audit_core.specs.Belonging.{IsHeld}
use Rattle.audit_core.specs.Places.{first_of}
use Rattle.audit_core.specs.Telling.{tells}
use Rattle.audit_core.specs.declared.due_entries.EffectDue.{EffectDue}
use Rattle.audit_core.specs.declared.order.Due.{Due}
use Rattle.audit_core.specs.declared.order.Due.TheVariants as due
use Rattle.audit_core.specs.declared.order.EntryOrder.{EntryOrder}
use Rattle.audit_core.specs.declared.report.Stood.{Stood}
use Rattle.audit_core.specs.declared.telling.Break.{Break}

-- effects, as entries tell them
abbrev pub effected : EffectDue → Effected
effected own = record {
  slot = own.caused.now.slot;
  command = own.caused.now.command;
  effect = own.effect.now;
}

abbrev pub effects_lent : List EffectDue → List Effected
effects_lent effects = map effected effects

abbrev pub entry_due : Due → Entry
entry_due (due.Line own) = entry.Line own.now
entry_due (due.Effect own) = entry.Effect (effected own.now)
entry_due (due.Charge own) = entry.Charge own.now

-- what an epoch is due
abbrev pub entries_due : List LineTold → List Effected → List ChargeEntry → List Entry
entries_due lines effects rows =
    map entry.Line (map (λ (told : LineTold). told.entry) lines)
    ++ (map entry.Effect effects ++ map entry.Charge rows)

-- entries that were read stand at their places
abbrev pub AreStood : List Entry → List Stood → Type 0
AreStood entries read = All (λ (s : Stood). first_of (drop s.place entries) ≡ Some s.entry) read

-- another entry stands where one is due, or none
pub record IsOther (stands : Option Entry) (due : Entry) (found : Break) : Type 0 where
  pub differ : stands ≢ Some due
  pub is : found ≡ tells stands (Some due)

-- the entries before a place are those that were asked for
pub record StandsSo (entries asked : List Entry) (place : ℕ) : Type 0 where
  pub left : List Entry
  pub parts : entries ≡ asked ++ left
  pub behind : place ≡ length asked

-- One that was asked for is the first that isn't there, whatever is due behind it.
pub record DiffersAt (entries asked : List Entry) (found : Break) : Type 0 where
  pub same : List Entry
  pub left : List Entry
  pub due : Entry
  pub later : List Entry
  pub told_parts : entries ≡ same ++ left
  pub made_parts : asked ≡ same ++ due ∷ later
  pub other : IsOther (first_of left) due found

-- The entries of a report are held against those that were asked for: these stand first in it, or the first that
-- isn't there is kept.
pub record Asks (made : List (List Meaning)) (entries asked : List Entry) (order : EntryOrder) : Type 0 where
  pub held : IsHeld made entries order.report.now
  pub stood : AreStood entries order.read.now
  pub some : IfSome order.broken (DiffersAt entries asked)
  pub none : IfNone order.broken (StandsSo entries asked order.place)
