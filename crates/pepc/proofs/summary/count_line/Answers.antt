use Rattle.std.proofs.Common.{subst}
use Rattle.trace_run.proofs.ReportingLemmas.{answered_open, answered_whole}
use Rattle.pepc.specs.Counting.{CountsMore}
use Rattle.pepc.proofs.SummaryLemmas.{counts_closed, counts_open}
use Rattle.pepc.proofs.summary.count_line.Goals as goal

pub returns-then-not-branch : goal.returns-then-not-branch
returns-then-not-branch c = λ done latest so_far due.
    counts_open c.args.epochs.now.reporter c.answer.new.self.reporter c.args.epochs.now.size c.answer.new.self.size
    c.args.epochs.now.text c.answer.new.self.text c.args.counts.now done latest c.args.line.now so_far
    (answered_open _ c.in_ok-answer.field-0 _ _ _ _ _ _ _ c.if-not-branch.true
    (c.in_ok-answer.ensures c.args.epochs.now.reporter done latest so_far.sent so_far.standing due))

pub returns : goal.returns
returns c = λ done latest so_far due.
    rw c.clear-2.ensures
    (counts_closed c.args.epochs.now.reporter c.answer.new.self.reporter c.args.epochs.now.size c.answer.new.self.size
    c.args.epochs.now.text c.answer.new.self.text c.args.counts.now c.add.new.self done latest c.args.line.now so_far
    (answered_whole _ c.in_ok-answer.field-0 _ _ _ _ _ _ _ c.if-not-branch.false
    (c.in_ok-answer.ensures c.args.epochs.now.reporter done latest so_far.sent so_far.standing due))
    (subst (CountsMore c.args.counts.now c.add.new.self) c.as_slice.ensures c.add.ensures))
