use Rattle.subscriber.proofs.ChargeLemmas.{packets_charged, versions_charged}
use Rattle.subscriber.proofs.AlikeFits.{fitting_open}
use Rattle.subscriber.proofs.parts_laws.pieces_may_be_charged.Goals as goal

pub returns : goal.returns
returns c = record { packets = packets_charged; versions = versions_charged; fitting = fitting_open }
