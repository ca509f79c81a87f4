use Rattle.lawful_run.proofs.ChargesIn.{open_piece_in}
use Rattle.lawful_run.proofs.range_laws.open_pieces_are_in_range.Goals as goal

pub returns : goal.returns
returns c = open_piece_in
