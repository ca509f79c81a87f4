-- What the lines of an audit's input say: a trace, and behind the line `REPORT` a report of it.
use Rattle.std.specs.Prelude.{◌≡◌, ℕ, ◌+◌, List, [], ◌∷◌, ◌++◌, map, All, Contains, bytes_eq, codes, if◌then◌else◌}
use Rattle.report_lines.specs.Ranges.{IsEntry}
use Rattle.report_lines.specs.Text.{entry_text}
use Rattle.report_lines.specs.declared.entry.Entry.{Entry}
use Rattle.trace_lines.specs.Input.{Input, ended, line_then, stopped}
use Rattle.trace_lines.specs.Meaning.{line_meaning}
use Rattle.pc_outside.specs.Texts.{Text}

-- the line between a trace and its report
abbrev pub marker : Text
marker = codes "REPORT"

-- the lines before it · those behind it, none where it doesn't come
abbrev pub trace_texts : List Text → List Text
trace_texts [] = []
trace_texts (text ∷ texts) = if bytes_eq text marker then [] else text ∷ trace_texts texts

abbrev pub report_texts : List Text → List Text
report_texts [] = []
report_texts (text ∷ texts) = if bytes_eq text marker then texts else report_texts texts

-- What lines say from that of this number on, where no moment goes below the least. Behind one that is refused no more
-- is looked at.
abbrev pub trace_from : ℕ → ℕ → List Text → Input
trace_from number least [] = stopped ended
trace_from number least (text ∷ texts) =
    line_then number (line_meaning least number text) (λ line. trace_from (number + 1) line.moment texts)

abbrev pub trace_said : List Text → Input
trace_said texts = trace_from 1 0 (trace_texts texts)

-- these lines are those of these entries · one of the lines is no entry's · the first such line stands behind those of
-- these entries
pub record AreEntries (texts : List Text) (entries : List Entry) : Type 0 where
  pub same : texts ≡ map entry_text entries
  pub ranges : All IsEntry entries

pub record HasNoEntry (texts : List Text) : Type 0 where
  pub text : Text
  pub stands : Contains texts text
  pub none : (entry : Entry) → IsEntry entry → text ≡ entry_text entry → ⊥

pub record EndsAtNone (texts : List Text) (entries : List Entry) : Type 0 where
  pub text : Text
  pub later : List Text
  pub parts : texts ≡ map entry_text entries ++ text ∷ later
  pub ranges : All IsEntry entries
  pub none : (entry : Entry) → IsEntry entry → text ≡ entry_text entry → ⊥
