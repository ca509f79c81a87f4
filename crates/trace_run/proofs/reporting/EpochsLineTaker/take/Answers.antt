use Rattle.trace_run.proofs.ReportingLemmas.{answered_open, answered_whole, breaks_off, written_more}
use Rattle.trace_run.proofs.reporting.EpochsLineTaker.take.Goals as goal

pub returns-then-not-branch-clause-taken : goal.returns-then-not-branch-clause-taken
returns-then-not-branch-clause-taken g c = λ first done latest old has due. record {
  sent = has.sent;
  written = has.written;
  standing = answered_open _ c.in_ok-answer.field-0 _ _ _ _ _ _ _ c.if-not-branch.true
      (c.in_ok-answer.ensures first.reporter done latest has.sent has.standing due);
}

pub returns-clause-taken : goal.returns-clause-taken
returns-clause-taken g c = λ first done latest old has due.
    let standing = answered_whole _ c.in_ok-answer.field-0 _ _ _ _ _ _ _ c.if-not-branch.false
    (c.in_ok-answer.ensures first.reporter done latest has.sent has.standing due) in
    written_more _ c.write_text.result _ _ _ _ _ c.write_text.new.text _ has.sent old _ _ has.written standing
    c.write_text.ensures.whole c.write_text.ensures.emptied

pub returns-clause-broken : goal.returns-clause-broken
returns-clause-broken g c = λ first done latest old has due failed.
    let standing = answered_whole _ c.in_ok-answer.field-0 _ _ _ _ _ _ _ c.if-not-branch.false
    (c.in_ok-answer.ensures first.reporter done latest has.sent has.standing due) in
    breaks_off _ c.write_text.result _ _ _ _ _ _ has.sent old _ _ has.written standing failed
    c.write_text.ensures.cut
