use Rattle.std.proofs.Common.{◌≡◌, ◌++◌, length, refl, sym, ap, subst, ◌∙◌}
use Rattle.std.proofs.lemmas.List.Elements.{All-push}
use Rattle.demux.specs.Packets.{numbered}
use Rattle.gate_model.specs.SlotPast.{past_of, records_after}
use Rattle.packet_steps.specs.Lent.{verdict_of}
use Rattle.report_lines.specs.Lent.{IsShort}
use Rattle.slot_execution.specs.Lending.{HasOctets, verdict_with}
use Rattle.slot_execution.specs.Replaying.{AreShort}
use Rattle.slot_execution.specs.declared.replayed.NumberedVerdict.{NumberedVerdict}
use Rattle.slot_execution.proofs.LentOctets.{with_own}
use Rattle.slot_execution.proofs.Octets.{lent_octets}
use Rattle.slot_execution.proofs.Steps.{plays_packet, room_for}
use Rattle.slot_execution.proofs.executing.do_packet.Goals as goal

pub judge-requires-clause-room : goal.judge-requires-clause-room
judge-requires-clause-room c =
    room_for c.few_events_leave_room.ensures c.args.subscriber.now c.args.replayed.now 1 c.requires.room

pub returns-clause-plays : goal.returns-clause-plays
returns-clause-plays c = λ slot before now plays.
    let subscriber = c.args.subscriber.now in
    let packet = numbered subscriber.packets c.args.placed.now.packet in
    let events = before ++ now in
    let taken = length (records_after slot before) in
    let judged = c.in_ok-handled.handled.judged in
    let verdict = c.in_ok-handled.ensures.verdict slot events taken plays.stands in
    let octets : HasOctets judged packet.octets = lent_octets (past_of slot events).packets packet judged verdict in
    let same : verdict_of c.lend_again.result ≡ verdict_of judged =
    c.lend_again.ensures.verdict ∙ ap (verdict_with judged) c.octets.ensures.octets ∙ with_own judged packet.octets octets in
    plays_packet subscriber c.judge.new.self c.args.replayed.now _ slot before now packet
    (record {
      number = c.in_ok-handled.handled.number;
      commands = c.args.placed.now.commands;
      place = c.args.placed.now.place;
      verdict = c.lend_again.result;
    }) plays c.in_ok-handled.ensures.number (same ∙ verdict)
    (c.in_ok-handled.ensures.stands slot events taken plays.stands) c.in_ok-push_back.ensures.items refl refl

pub returns-clause-short : goal.returns-clause-short
returns-clause-short c = λ short.
    subst AreShort (sym c.in_ok-push_back.ensures.items)
    (All-push (λ (judged : NumberedVerdict). IsShort judged.verdict) c.args.replayed.now.packets.items _ short
    (c.lend_again.ensures.short c.octets.ensures.whole))
