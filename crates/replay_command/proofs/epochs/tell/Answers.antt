use Rattle.std.proofs.Common.{◌++◌, ap, sym, ◌∙◌, append_assoc}
use Rattle.packet_steps.proofs.ResultLemmas.{on_ok}
use Rattle.slot_execution.specs.Replaying.{effects_told, rows_told}
use Rattle.front_core.specs.Filled.{told_by}
use Rattle.trace_run.specs.Entries.{charges_text, closing_text, effects_text, lines_text}
use Rattle.trace_run.specs.Noted.{noted}
use Rattle.replay_command.proofs.epochs.tell.Goals as goal

pub returns : goal.returns
returns g c =
    let places = c.args.places in
    let told = told_by c.args.epoch in
    let note = lines_text places (noted c.args.bad c.args.number) in
    let entries = c.push_blocks.new.report in
    on_ok c.push_closing.result
    (λ behind. behind
    ∙ ap (λ all. entries ++ (note ++ (effects_text places (effects_told all)
    ++ charges_text places (rows_told c.as_slice-2.result.now)))) c.as_slice.ensures.value
    ∙ ap (λ all. entries ++ (note ++ (effects_text places told.effects ++ charges_text places (rows_told all))))
    c.as_slice-2.ensures.value
    ∙ ap (λ text. text ++ (note ++ closing_text places told)) c.in_ok-push_blocks.ensures
    ∙ append_assoc c.args.report.now (lines_text places told.lines) (note ++ closing_text places told)
    ∙ ap (λ text. c.args.report.now ++ text)
    (sym (append_assoc (lines_text places told.lines) note (closing_text places told))))
    (c.push_closing.ensures places)
