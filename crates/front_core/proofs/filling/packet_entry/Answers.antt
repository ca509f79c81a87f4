use Rattle.front_core.proofs.Entries.{takes_packet}
use Rattle.front_core.proofs.filling.packet_entry.Goals as goal

pub returns : goal.returns
returns c =
    takes_packet c.args.line c.args.slot c.args.parked c.args.answers.now.items c.next_packet-next.new.answers.items
    c.next_packet-next.result c.judgement.result c.requires c.next_packet-next.ensures c.judgement.ensures
