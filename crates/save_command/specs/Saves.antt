-- What a run of `save` wrote.
use Rattle.std.specs.Prelude.{◌≡◌, ℕ, ◌<◌, All, List, [], ◌++◌, Option}
use Rattle.std.specs.Io.KnownBytes.{Appends}
use Rattle.pc_outside.specs.WhereTold.{WhereTold}
use Rattle.trace_lines.specs.Input.{big, ended, input_of}
use Rattle.trace_lines.specs.Line.{Line}
use Rattle.record_codec.specs.Saved.{FileState}
use Rattle.record_codec.specs.Spelling.{state}
use Rattle.solo_command.specs.Left.{IsLeft}
use Rattle.solo_command.specs.Report.{slices}
use Rattle.record_codec.specs.StateText.{IsStateText}
use Rattle.trace_run.specs.Report.{IsBad, IsLong, Taken}
use Rattle.trace_run.specs.declared.status.Status.{Status}
use Rattle.trace_run.specs.declared.status.Status.TheVariants as status

-- the text of the state that lines leave
pub record IsSavedText (lines : List Line) (text : List ℕ) : Type 0 where
  pub file : FileState
  pub left : IsLeft slices lines file
  pub octets : All (λ octet. octet < 256) (state file)
  pub written : IsStateText (state file) text

-- What was written of the state that lines leave, by the status: its whole text, a prefix of it where the sink failed,
-- or nothing where memory ran out.
abbrev pub WroteAs : Status → List Line → (text : List ℕ) → Type 0
WroteAs status.Ok lines text = IsSavedText lines text
WroteAs status.WriteFault lines text = (more : List ℕ) × IsSavedText lines (text ++ more)
WroteAs status.NoMemory lines text = text ≡ []
WroteAs status.Usage lines text = ⊥
WroteAs status.ReadFault lines text = ⊥
WroteAs status.BadLine lines text = ⊥
WroteAs status.LineLong lines text = ⊥
WroteAs status.TooLong lines text = ⊥
WroteAs status.Refuted lines text = ⊥
WroteAs status.BadCapture lines text = ⊥
WroteAs status.BadState lines text = ⊥
WroteAs status.BadReport lines text = ⊥

pub record Wrote (ending : Status) (lines : List Line) (old new : Option (List ℕ)) : Type 0 where
  pub text : List ℕ
  pub written : Appends old new text
  pub said : WroteAs ending lines text

-- The same of a run, where the source had these octets and has those left. With any other status nothing was written.
abbrev pub SavesAs : Status → (octets left text : List ℕ) → Type 0
SavesAs status.Ok octets left text =
    ((input_of octets).stop ≡ ended) × (left ≡ []) × IsSavedText (input_of octets).lines text
SavesAs status.WriteFault octets left text =
    ((input_of octets).stop ≡ ended) × (left ≡ [])
    × ((more : List ℕ) × IsSavedText (input_of octets).lines (text ++ more))
SavesAs status.ReadFault octets left text =
    (taken : Taken octets left) × ((input_of taken.whole).stop ≡ ended) × (text ≡ [])
SavesAs status.NoMemory octets left text = text ≡ []
SavesAs status.BadLine octets left text = IsBad (input_of octets).stop × (text ≡ [])
SavesAs status.LineLong octets left text = IsLong (input_of octets).stop × (text ≡ [])
SavesAs status.TooLong octets left text = ((input_of octets).stop ≡ big) × (text ≡ [])
SavesAs status.Usage octets left text = ⊥
SavesAs status.Refuted octets left text = ⊥
SavesAs status.BadCapture octets left text = ⊥
SavesAs status.BadState octets left text = ⊥
SavesAs status.BadReport octets left text = ⊥

-- octets were appended to what a sink tells, and they are those by what a source told
pub record Saves (ending : Status) (start left old new : Option (List ℕ)) : Type 0 where
  pub text : List ℕ
  pub written : Appends old new text
  pub said : WhereTold start left (λ octets rest. SavesAs ending octets rest text)
