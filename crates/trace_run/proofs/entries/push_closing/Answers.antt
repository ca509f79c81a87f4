use Rattle.packet_steps.proofs.ResultLemmas.{on_ok}
use Rattle.slot_execution.specs.Replaying.{effects_told, rows_told}
use Rattle.trace_run.specs.Entries.{charges_text, effects_text, lines_text}
use Rattle.trace_run.specs.Noted.{noted}
use Rattle.trace_run.proofs.EntryLemmas.{behind_each}
use Rattle.trace_run.proofs.entries.push_closing.Goals as goal

pub returns : goal.returns
returns c = λ places. on_ok c.push_records.result
    (behind_each c.args.report.now (lines_text places (noted c.args.bad c.args.line))
    (effects_text places (effects_told c.args.effects.now)) (charges_text places (rows_told c.args.records.now))
    c.push_noted.new.report c.push_effects.new.report c.push_records.new.report (c.in_ok-push_noted.ensures places)
    (c.in_ok-push_effects.ensures places))
    (c.push_records.ensures places)
