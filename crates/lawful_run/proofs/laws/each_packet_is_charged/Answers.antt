use Rattle.lawful_run.proofs.LedgerLaws.{reports_are_partitions, each_octet_charged, each_packet_charged}
use Rattle.lawful_run.proofs.laws.each_packet_is_charged.Goals as goal

pub returns : goal.returns
returns c = record { pieces = reports_are_partitions; octets = each_octet_charged; packets = each_packet_charged }
