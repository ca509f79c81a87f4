use Rattle.gate_model.proofs.Charges.{forwarded_told, in_one_piece, records_added}
use Rattle.gate_model.proofs.laws.each_packet_in_one_piece.Goals as goal

pub returns : goal.returns
returns c = record { told = forwarded_told; pieces = in_one_piece; added = records_added }
