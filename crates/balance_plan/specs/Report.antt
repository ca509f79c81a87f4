-- What is written, by how the run ended. A report is read, and not judged; and the input is no capture and no state.
use Rattle.std.specs.Prelude.{◌≡◌, ℕ, List, [], ◌++◌, Option}
use Rattle.std.specs.Io.KnownBytes.{Appends}
use Rattle.pc_outside.specs.Prefixes.{AppendsPrefix}
use Rattle.pc_outside.specs.WhereTold.{WhereTold}
use Rattle.pc_outside.specs.InputRead.{FailsBehind, IsReadWhole}
use Rattle.audit_core.specs.Said.{HasNoEntry, report_texts}
use Rattle.pc_outside.specs.Texts.{Text, big, long, texts_of}
use Rattle.balance_plan.specs.Said.{HasBadLine, IsBalanced, IsTrace}
use Rattle.trace_run.specs.declared.status.Status.{Status}
use Rattle.trace_run.specs.declared.status.Status.TheVariants as status

-- a prefix of the text
pub record IsBalancedPrefix (slices most : ℕ) (octets text : List ℕ) : Type 0 where
  pub more : List ℕ
  pub whole : IsBalanced slices most (texts_of octets).lines (text ++ more)

abbrev pub Reports : Status → (slices most : ℕ) → List ℕ → List ℕ → List ℕ → Type 0
Reports status.Ok slices most octets left text =
    IsReadWhole octets left × IsBalanced slices most (texts_of octets).lines text
Reports status.Usage slices most octets left text = ⊥
Reports status.ReadFault slices most octets left text =
    (done : List Text) × FailsBehind octets left done × IsTrace done × (text ≡ [])
Reports status.WriteFault slices most octets left text =
    IsReadWhole octets left × IsBalancedPrefix slices most octets text
Reports status.NoMemory slices most octets left text = text ≡ []
Reports status.BadLine slices most octets left text = HasBadLine (texts_of octets).lines × (text ≡ [])
Reports status.LineLong slices most octets left text =
    ((texts_of octets).stop ≡ long) × IsTrace (texts_of octets).lines × (text ≡ [])
Reports status.TooLong slices most octets left text =
    ((texts_of octets).stop ≡ big) × IsTrace (texts_of octets).lines × (text ≡ [])
Reports status.Refuted slices most octets left text = ⊥
Reports status.BadCapture slices most octets left text = ⊥
Reports status.BadState slices most octets left text = ⊥
Reports status.BadReport slices most octets left text =
    IsReadWhole octets left
    × IsTrace (texts_of octets).lines
    × HasNoEntry (report_texts (texts_of octets).lines)
    × (text ≡ [])

-- the text was appended, or a prefix of it where the sink failed
abbrev pub IsWrittenAs : Status → Option (List ℕ) → Option (List ℕ) → List ℕ → Type 0
IsWrittenAs status.Ok old new text = Appends old new text
IsWrittenAs status.Usage old new text = ⊥
IsWrittenAs status.WriteFault old new text = AppendsPrefix old new text
IsWrittenAs status.ReadFault old new text = ⊥
IsWrittenAs status.NoMemory old new text = ⊥
IsWrittenAs status.BadLine old new text = ⊥
IsWrittenAs status.LineLong old new text = ⊥
IsWrittenAs status.TooLong old new text = ⊥
IsWrittenAs status.Refuted old new text = ⊥
IsWrittenAs status.BadCapture old new text = ⊥
IsWrittenAs status.BadState old new text = ⊥
IsWrittenAs status.BadReport old new text = ⊥

-- octets were appended to what a sink tells, and they are what is written of those that a source told
pub record Balances (ending : Status) (slices most : ℕ) (start left old new : Option (List ℕ)) : Type 0 where
  pub text : List ℕ
  pub written : Appends old new text
  pub report : WhereTold start left (λ octets rest. Reports ending slices most octets rest text)
