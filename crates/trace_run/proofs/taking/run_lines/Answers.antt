use Rattle.std.proofs.Common.{◌≡◌}
use Rattle.trace_run.specs.Beginnings.{whole_input}
use Rattle.pc_outside.specs.declared.writing.Unwritten.TheVariants as unwritten
use Rattle.trace_run.proofs.TakeLemmas.{cut_first, if_err}
use Rattle.trace_run.proofs.taking.run_lines.Goals as goal

pub returns-in_err-buf-clause-cut : goal.returns-in_err-buf-clause-cut
returns-in_err-buf-clause-cut g c =
    if_err (λ why. why ≡ unwritten.NoMemory) _ c.from_residual.result
    (λ why is. rw is (cut_first whole_input (g.T.LineTaker.represents c.args.taker.now) (g.T.LineTaker.breaks c.args.taker.now) _ _
    c.args.taker.now c.requires.first)) c.from_residual.ensures.1
