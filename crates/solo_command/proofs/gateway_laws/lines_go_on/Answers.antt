use Rattle.solo_command.proofs.EpochLemmas.{epoch_then, epochs_then}
use Rattle.solo_command.proofs.AnswerLemmas.{line_then, lines_then}
use Rattle.solo_command.proofs.gateway_laws.lines_go_on.Goals as goal

pub returns : goal.returns
returns c = record { lines = lines_then; next = line_then; epochs = epochs_then; next_epoch = epoch_then }
