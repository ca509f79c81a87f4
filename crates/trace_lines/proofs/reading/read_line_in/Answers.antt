use Rattle.trace_lines.proofs.MeaningLemmas.{length-line_text, meaning_given}
use Rattle.trace_lines.proofs.ReadLemmas.{whole_read, whole_refused}
use Rattle.trace_lines.proofs.reading.read_line_in.Goals as goal

pub invariant_of-line : goal.invariant_of-line
invariant_of-line c =
    let text = c.args.text.now in
    let read = whole_read c.args.least c.args.number text _ (c.in-Ok.ensures.line c.args.number) in
    (meaning_given c.args.least c.args.number text _ read).0.is_line

pub returns-in-Ok-clause-line : goal.returns-in-Ok-clause-line
returns-in-Ok-clause-line c =
    whole_read c.args.least c.args.number c.args.text.now _ (c.in-Ok.ensures.line c.args.number)

pub returns-in-Ok-clause-in_order : goal.returns-in-Ok-clause-in_order
returns-in-Ok-clause-in_order c =
    let text = c.args.text.now in
    let read = whole_read c.args.least c.args.number text _ (c.in-Ok.ensures.line c.args.number) in
    (meaning_given c.args.least c.args.number text _ read).2

pub returns-in-Ok-clause-as_long : goal.returns-in-Ok-clause-as_long
returns-in-Ok-clause-as_long c =
    let text = c.args.text.now in
    let read = whole_read c.args.least c.args.number text _ (c.in-Ok.ensures.line c.args.number) in
    length-line_text text _ (meaning_given c.args.least c.args.number text _ read).0

pub returns-in-Err-clause-refusal : goal.returns-in-Err-clause-refusal
returns-in-Err-clause-refusal c =
    rw c.refused.ensures (whole_refused c.args.least c.args.number c.args.text.now c.in-Err.why
    (c.in-Err.ensures.refusal c.args.number))
