use Rattle.charging_book.proofs.Partition.{ledgers_are_partitions}
use Rattle.charging_book.proofs.LedgerSums.{each_octet_once, each_packet_once}
use Rattle.charging_book.proofs.accounts.each_packet_once.Goals as goal

pub returns : goal.returns
returns c = record { pieces = ledgers_are_partitions; octets = each_octet_once; packets = each_packet_once }
