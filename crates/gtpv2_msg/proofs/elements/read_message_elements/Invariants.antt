use Rattle.std.proofs.Common.{◌≡◌, take}
use Rattle.gtpv2_msg.specs.Elements.{read_ies, contexts_in}
use Rattle.gtpv2_msg.specs.RowFault.{inside_fault}
use Rattle.gtpv2_msg.proofs.elements.read_message_elements.Given as goal

abbrev pub invariant-loop-raw : goal.invariant-loop-raw
invariant-loop-raw l = record {
  value : l.ies.items ≡ read_ies l.octets (take l.raw-index l.raws);
  fault : l.first ≡ inside_fault l.inside (contexts_in l.octets (take l.raw-index l.raws));
}
