use Rattle.std.proofs.Common.{◌++◌, map, ap, ◌∙◌}
use Rattle.report_lines.specs.declared.entry.ChargeEntry.TheVariants.{R}
use Rattle.trace_run.specs.Entries.{charges_text}
use Rattle.packet_steps.proofs.ResultLemmas.{on_ok}
use Rattle.trace_run.proofs.entries.push_closed.Goals as goal

pub returns : goal.returns
returns c = λ places.
    on_ok c.push_rows.result
    (λ told. told ∙ ap (λ rows. c.args.report.now ++ charges_text places (map (R c.args.closed.now.slot) rows))
    c.as_slice.ensures.value) (c.push_rows.ensures places)
