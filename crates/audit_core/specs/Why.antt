-- The break of each sentence of the lawful run.
use Rattle.std.specs.Prelude.{◌≡◌, ℕ, zero, suc, ◌⊎◌, Option, List}
use Rattle.demux.specs.Trace.{Meaning}
use Rattle.report_lines.specs.declared.entry.Entry.{Entry}
use Rattle.report_lines.specs.declared.entry.LineEntry.{LineEntry}
use Rattle.lawful_run.specs.LinesTold.{LineTold}
use Rattle.lawful_run.specs.Merging.{Histories}
use Rattle.lawful_run.specs.Report.{entries_of}
use Rattle.lawful_run.specs.Run.{no_events}
use Rattle.lawful_run.specs.Setup.{Setup}
use Rattle.audit_core.specs.Sentences.{AreNumbered, AreOfTheGateway, CountsAreLawful, EachEpoch, Sentence}
use Rattle.audit_core.specs.Sentences.{WaitsAreLawful, behind_epochs, made_report, told_epochs}
use Rattle.audit_core.specs.AnswerPlaces.{IsUnanswered}
use Rattle.audit_core.specs.Bounds.{IsCountBreak}
use Rattle.audit_core.specs.Charges.{ChargeBreak}
use Rattle.audit_core.specs.FirstLines.{MayStand, due_of, number_due}
use Rattle.audit_core.specs.Gateway.{IsGatewayBreak}
use Rattle.audit_core.specs.Places.{FirstDifference, FirstEpoch, FirstLine}
use Rattle.audit_core.specs.Telling.{at_line, tells}
use Rattle.audit_core.specs.declared.telling.Break.{Break}

-- at the entry of the first line up to which something doesn't hold
pub record PrefixBreak (P : List LineTold → Type 0) (due : List LineTold → LineEntry → List ℕ) (lines : List LineTold)
    (told : Break) : Type 0 where
  pub prefix : List LineTold
  pub now : LineTold
  pub first : FirstLine P lines prefix now
  pub is : told ≡ at_line now.entry (due prefix now.entry)

-- in the first epoch of which a sentence doesn't hold
pub record EpochBreak (P : Histories → List LineTold → Type 0) (B : Histories → List LineTold → Break → Type 0)
    (epochs : List (List LineTold)) (told : Break) : Type 0 where
  pub prefix : List (List LineTold)
  pub lines : List LineTold
  pub first : FirstEpoch P epochs prefix lines
  pub there : B (behind_epochs no_events prefix) lines told

abbrev pub NumberBreak : Histories → List LineTold → Break → Type 0
NumberBreak before lines told = PrefixBreak (AreNumbered before) (number_due before) lines told

abbrev pub WaitBreak : Setup → Histories → List LineTold → Break → Type 0
WaitBreak setup before lines told = PrefixBreak (MayStand setup before) (due_of setup before) lines told

-- the first entry that isn't the one due
pub record OrderBreak (entries due : List Entry) (told : Break) : Type 0 where
  pub stands : Option Entry
  pub asked : Option Entry
  pub first : FirstDifference entries due stands asked
  pub is : told ≡ tells stands asked

-- lines wait unlawfully, or else the entries don't stand in their order
abbrev pub LastBreak : Setup → List (List LineTold) → List Entry → List Entry → Break → Type 0
LastBreak setup epochs entries due told =
    EpochBreak (WaitsAreLawful setup) (WaitBreak setup) epochs told
    ⊎ (EachEpoch (WaitsAreLawful setup) no_events epochs × OrderBreak entries due told)

-- Where a sentence is broken, which is the first one that is.
abbrev pub IsBreak : Setup → ℕ → List (List Meaning) → List Entry → ℕ → Break → Type 0
IsBreak setup slots made entries (suc zero) told = IsUnanswered made entries told
IsBreak setup slots made entries (suc (suc zero)) told =
    EpochBreak AreNumbered NumberBreak (told_epochs made entries) told
IsBreak setup slots made entries (suc (suc (suc zero))) told =
    EpochBreak CountsAreLawful IsCountBreak (told_epochs made entries) told
IsBreak setup slots made entries (suc (suc (suc (suc zero)))) told =
    EpochBreak AreOfTheGateway IsGatewayBreak (told_epochs made entries) told
IsBreak setup slots made entries (suc (suc (suc (suc (suc zero))))) told =
    ChargeBreak slots made entries (made_report slots (told_epochs made entries)) told
IsBreak setup slots made entries (suc (suc (suc (suc (suc (suc zero)))))) told =
    LastBreak setup (told_epochs made entries) entries (entries_of (made_report slots (told_epochs made entries))) told
IsBreak setup slots made entries _ told = ⊥

-- The fifth sentence has one break at most: the first effect that differs, else charging record, else open counter.
abbrev pub OneBreakOfCharges : Type 0
OneBreakOfCharges = (setup : Setup) (slots : ℕ) (made : List (List Meaning)) (entries : List Entry) (told other : Break)
    → IsBreak setup slots made entries 5 told → IsBreak setup slots made entries 5 other → told ≡ other

-- a sentence that has a break is broken
abbrev pub BreaksAreBroken : Type 0
BreaksAreBroken = (setup : Setup) (slots : ℕ) (made : List (List Meaning)) (entries : List Entry) (k : ℕ) (told : Break)
    → IsBreak setup slots made entries k told
    → ¬ Sentence setup slots made entries k
