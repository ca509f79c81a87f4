use Rattle.std.proofs.Common.{ap, ◌∙◌}
use Rattle.pcap_form.specs.Packet.{kind_in}
use Rattle.pcap_form.proofs.ReadLemmas.{captured_part}
use Rattle.pcap_form.proofs.importing.said_in.Goals as goal

pub returns : goal.returns
returns c =
    c.lent_kind.ensures
    ∙ ap (kind_in c.args.head.now.ethernet) (captured_part c.args.head.now c.args.one c.args.held.now c.requires)
