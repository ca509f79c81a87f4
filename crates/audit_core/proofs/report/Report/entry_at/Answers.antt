use Rattle.std.proofs.Common.{◌∙◌}
use Rattle.report_lines.specs.Text.{entry_text}
use Rattle.audit_core.proofs.report.Report.entry_at.Goals as goal

pub read-requires : goal.read-requires
read-requires c = (entry_text c.requires.0, c.requires.1, c.requires.3)

pub known-requires : goal.known-requires
known-requires c = (
  c.requires.0,
  c.requires.2,
  c.as_slice.ensures ∙ c.in_ok-_end.ensures.text (entry_text c.requires.0) c.requires.1 c.requires.3,
)

pub returns : goal.returns
returns c = λ own later is keeps.
    c.known.ensures own is (c.as_slice.ensures ∙ c.in_ok-_end.ensures.text (entry_text own) later keeps)
