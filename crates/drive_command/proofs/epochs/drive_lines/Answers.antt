use Rattle.packet_steps.proofs.ResultLemmas.{on_ok}
use Rattle.lawful_run.specs.Cut.{lines_in}
use Rattle.epoch_drive.specs.Taken.{rest_of}
use Rattle.epoch_drive.specs.Telling.{told_by}
use Rattle.drive_command.specs.Standing.{events_behind}
use Rattle.drive_command.proofs.StandLemmas.{next_so, stands_more, workers_still}
use Rattle.drive_command.proofs.epochs.drive_lines.Goals as goal

pub returns : goal.returns
returns c = λ start taken schedule closed told has may workers stands.
    let new = rest_of c.drive.new.self in
    let old_turns = c.args.turns.now in
    let new_turns = c.drive.new.turns in
    let entry = told_by c.in_ok-epoch.epoch in
    let after = c.in_ok-epoch.ensures.behind start taken (lines_in closed) has may stands.behind in
    let setup = c.in_ok-epoch.ensures.setup start taken has in
    let goes_on = c.in_ok-epoch.ensures.turns start taken has in
    let next = next_so schedule start new old_turns closed told taken entry stands after
    (λ slots known. c.in_ok-epoch.ensures.driven start taken (lines_in closed) (events_behind schedule closed told) slots
    has may stands.behind stands.represents known) in
    on_ok c.begin.result
    (λ opened. record {
      rest = new;
      drives = record {
        now = entry;
        next = next;
        stands = stands_more schedule start new old_turns new_turns closed told taken entry stands next
            (c.in_ok-epoch.ensures.represents start taken (lines_in closed) (events_behind schedule closed told) has may
            stands.behind stands.represents) after
            (c.in_ok-epoch.ensures.bounds start taken (lines_in closed) has may stands.behind) setup goes_on;
        said = c.in_ok-tell.ensures;
      };
      opened = opened;
      latest = c.in_ok-epoch.ensures.latest start taken has;
      workers = workers_still old_turns new_turns start new taken workers setup goes_on;
    })
    (c.begin.ensures new (c.in_ok-epoch.ensures.rests start taken has may))
