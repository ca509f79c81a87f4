use Rattle.audit_core.proofs.PiecesRun.{pieces_are_the_run}
use Rattle.audit_core.proofs.piece_laws.pieces_are_the_run.Goals as goal

pub returns : goal.returns
returns c = pieces_are_the_run
