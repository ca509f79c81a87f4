use Rattle.lawful_run.proofs.EveryTrace.{with_brought}
use Rattle.lawful_run.proofs.Growing.{entries_from-push, events_after-push, brought-push, answered_from-push, behind_epochs-push, epoch_slots, open_slots}
use Rattle.lawful_run.proofs.laws.runs_grow.Goals as goal

pub returns : goal.returns
returns c = record {
  entries = entries_from-push;
  events = events_after-push;
  brought = brought-push;
  behind = with_brought;
  epochs = answered_from-push;
  all = behind_epochs-push;
  slots = epoch_slots;
  opens = open_slots;
}
