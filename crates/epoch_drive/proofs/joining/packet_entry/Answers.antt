use Rattle.epoch_drive.proofs.EntryLemmas.{fills_packet, fills_refused_packet}
use Rattle.epoch_drive.proofs.joining.packet_entry.Goals as goal

pub returns-then-taken : goal.returns-then-taken
returns-then-taken c =
    fills_packet c.args.answers.now.items c.next_packet-next.new.answers.items c.args.line c.args.slot
    c.args.taken c.args.parked c.next_packet-next.result c.judgement.result c.if-taken.true
    c.requires c.next_packet-next.ensures c.judgement.ensures.told c.judgement.ensures.short

pub returns-else-taken : goal.returns-else-taken
returns-else-taken c =
    fills_refused_packet c.args.answers.now.items c.args.line c.args.slot c.args.taken c.args.parked
    c.if-taken.false
