-- What is written of the lines of an input.
use Rattle.std.specs.Prelude.{◌≡◌, ℕ, List}
use Rattle.report_lines.specs.declared.entry.Entry.{Entry}
use Rattle.trace_lines.specs.Input.{bad, ended}
use Rattle.trace_lines.specs.declared.bad.LineBad.{LineBad}
use Rattle.audit_core.specs.Said.{AreEntries, report_texts, trace_said}
use Rattle.pc_outside.specs.Texts.{Text}
use Rattle.balance_plan.specs.Balance.{balanced}
use Rattle.balance_plan.specs.Written.{text_of}

-- no line of the trace is refused · one is
abbrev pub IsTrace : List Text → Type 0
IsTrace texts = (trace_said texts).stop ≡ ended

pub record HasBadLine (texts : List Text) : Type 0 where
  pub number : ℕ
  pub why : LineBad
  pub stop : (trace_said texts).stop ≡ bad number why

-- The lines are those of a trace and of entries of a report, and this is the text of the trace with the moves that are
-- planned by it.
pub record IsBalanced (slices most : ℕ) (texts : List Text) (text : List ℕ) : Type 0 where
  pub trace : IsTrace texts
  pub entries : List Entry
  pub report : AreEntries (report_texts texts) entries
  pub written : text ≡ text_of (balanced slices most entries (trace_said texts).lines)
