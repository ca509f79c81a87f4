use Rattle.trace_run.proofs.TakeLemmas.{lines_cut_here, lines_end_here}
use Rattle.trace_run.proofs.taking.run_lines_by.Goals as goal

pub returns-clause-ended : goal.returns-clause-ended
returns-clause-ended g c = lines_end_here _ _ (g.L.LineReader.holds c.args.reader.now) _ _ _ _ c.requires.reader c.run_lines_behind.ensures.ended

pub returns-clause-cut : goal.returns-clause-cut
returns-clause-cut g c = lines_cut_here _ _ _ (g.L.LineReader.holds c.args.reader.now) _ _ _ _ c.requires.reader c.run_lines_behind.ensures.cut
