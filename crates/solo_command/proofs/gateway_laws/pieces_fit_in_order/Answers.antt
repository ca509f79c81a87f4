use Rattle.solo_command.proofs.Indexed.{fits_indexed}
use Rattle.solo_command.proofs.gateway_laws.pieces_fit_in_order.Goals as goal

pub returns : goal.returns
returns c = fits_indexed
