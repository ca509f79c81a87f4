use Rattle.std.proofs.Common.{◌≡◌, take}
use Rattle.gtpv2_msg.specs.Elements.{read_ies}
use Rattle.gtpv2_msg.proofs.elements.read_elements.Given as goal

abbrev pub invariant-loop-raw : goal.invariant-loop-raw
invariant-loop-raw l = l.ies.items ≡ read_ies l.octets (take l.raw-index l.raws)
