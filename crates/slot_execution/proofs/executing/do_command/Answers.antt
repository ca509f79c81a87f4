use Rattle.std.proofs.Common.{◌++◌, length, refl}
use Rattle.gate_model.specs.SlotPast.{records_after}
use Rattle.packet_steps.proofs.ResultLemmas.{on_ok}
use Rattle.slot_execution.proofs.Steps.{plays_command, room_for}
use Rattle.slot_execution.proofs.executing.do_command.Goals as goal

pub command-requires : goal.command-requires
command-requires c =
    room_for c.few_events_leave_room.ensures c.args.subscriber.now c.args.replayed.now 1 c.requires

pub returns-clause-plays : goal.returns-clause-plays
returns-clause-plays c = λ slot before now plays.
    let events = before ++ now in
    let taken = length (records_after slot before) in
    on_ok c.note_effects.result (λ told.
    plays_command c.args.subscriber.now c.command.new.self c.args.replayed.now _ slot c.slot-slot.result
    c.commands-number.result before now c.args.command.now c.in_ok-reply.reply c.in_ok-reply.effects plays
    c.commands-number.ensures (c.slot-slot.ensures.after slot events taken plays.stands)
    (c.in_ok-reply.ensures.reply slot events taken plays.stands)
    (c.in_ok-reply.ensures.effects slot events taken plays.stands)
    (c.in_ok-reply.ensures.stands slot events taken plays.stands) c.in_ok-push_back.ensures.items refl told)
    c.note_effects.ensures
