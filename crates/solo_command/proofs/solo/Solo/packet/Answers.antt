use Rattle.std.proofs.Common.{◌<◌, ◌≤◌, ◌++◌, ◌∷◌, [], List, ℕ, IfSome, refl, sym, ap, subst, ◌∙◌, arith, length}
use Rattle.gate_model.specs.declared.event.Event.TheVariants as event
use Rattle.demux.specs.Trace.{packet as carried}
use Rattle.gate_model.specs.SlotPast.{records_after, verdict_after}
use Rattle.packet_steps.specs.Lent.{verdict_of}
use Rattle.packet_steps.specs.Running.{planned}
use Rattle.report_lines.specs.declared.entry.Entry.TheVariants as entry
use Rattle.report_lines.specs.declared.entry.LineEntry.TheVariants as line_entry
use Rattle.subscriber.specs.Standing.{packet_of}
use Rattle.solo_command.specs.Entries.{judged_by, text_line}
use Rattle.solo_command.specs.Standing.{events_of}
use Rattle.solo_command.proofs.ShortLemmas.{is_short}
use Rattle.solo_command.proofs.StoryLemmas.{gathers_packet, held_at, packet_holds, packet_other, stands_next, told_packet}
use Rattle.solo_command.proofs.TellLemmas.{late_at, room_at, tells_packet}
use Rattle.solo_command.proofs.solo.Solo.packet.Goals as goal

pub judge-requires-clause-room : goal.judge-requires-clause-room
judge-requires-clause-room c =
    room_at c.args.self.now c.args.slot c.slot.inside.0 c.index_mut-subscriber.result.now c.requires.room c.requires.known
    c.slot.view_is c.index_mut-subscriber.ensures.value

pub judge-requires-clause-late : goal.judge-requires-clause-late
judge-requires-clause-late c =
    late_at c.args.self.now c.args.slot c.slot.inside.0 c.args.packet.now.moment c.index_mut-subscriber.result.now
    c.requires.late c.requires.known c.slot.view_is c.index_mut-subscriber.ensures.value

pub push_handled-requires : goal.push_handled-requires
push_handled-requires c =
    let one = c.index_mut-subscriber.result.now in
    is_short c.in_ok-handled.handled.judged
    (planned one.version one.counters (packet_of one.packets c.args.packet.now.moment c.args.packet.now.way
    c.args.packet.now.ip)) c.args.packet.now.ip c.in_ok-handled.ensures.planned
    (omega (arith, c.total_len-len.ensures.len, c.total_len-len.type_inv))

pub returns-clause-told : goal.returns-clause-told
returns-clause-told c = λ story stands numbered.
    let within = subst (λ (b : List (List ℕ)). c.args.slot < length b) stands.same_book c.requires.known in
    let held = held_at c.args.self.now story c.args.slot c.slot.inside.0 c.index_mut-subscriber.result.now stands
    within c.slot.view_is c.index_mut-subscriber.ensures.value in
    let own = c.args.slot in
    let events = events_of story own in
    let counted = held.stands.packets in
    c.in_ok-push_handled.ensures
    ∙ ap (λ text. c.args.report.now ++ text)
    (told_packet story own c.args.packet.now c.args.number c.in_ok-handled.handled.number
    c.in_ok-handled.handled.commands _ numbered (c.in_ok-handled.ensures.number ∙ counted) (c.in_ok-handled.ensures.commands
    ∙ held.stands.commands)
    (c.in_ok-handled.ensures.verdict own events (length (records_after own events)) held.stands
    ∙ ap (λ n. verdict_after own events (packet_of n c.args.packet.now.moment c.args.packet.now.way
    c.args.packet.now.ip)) counted))

pub returns-clause-stands : goal.returns-clause-stands
returns-clause-stands c = λ story stands late.
    let within = subst (λ (b : List (List ℕ)). c.args.slot < length b) stands.same_book c.requires.known in
    let held = held_at c.args.self.now story c.args.slot c.slot.inside.0 c.index_mut-subscriber.result.now stands
    within c.slot.view_is c.index_mut-subscriber.ensures.value in
    let own = c.args.slot in
    let events = events_of story own in
    let e = event.Packet (packet_of c.index_mut-subscriber.result.now.packets c.args.packet.now.moment
    c.args.packet.now.way c.args.packet.now.ip) in
    let more = events ++ e ∷ [] in
    let taken = length (records_after own events) in
    let after = c.in_ok-handled.ensures.stands own events taken held.stands in
    let closed = c.take_closed.ensures.stands own more taken after in
    let is = ap (λ n. event.Packet (packet_of n c.args.packet.now.moment c.args.packet.now.way
    c.args.packet.now.ip)) held.stands.packets in
    stands_next c.args.self.now _ story (carried own c.args.packet.now) story.bound c.args.packet.now.moment own
    c.slot.inside.0 c.take_closed.new.self
    stands within c.slot.view_is refl refl
    (packet_holds story own c.args.packet.now e c.take_closed.new.self
    (story.bound own) c.args.packet.now.moment is closed
    (c.take_closed.ensures.destination ∙ c.in_ok-handled.ensures.destination ∙ held.bound_for)
    (subst (λ last. IfSome last (λ l. l ≤ c.args.packet.now.moment))
    (sym (c.take_closed.ensures.last own more taken after ∙ c.in_ok-handled.ensures.last)) (omega arith)))
    (λ slot other. refl) (λ slot other. packet_other own slot (events_of story slot) c.args.packet.now other) late
    (gathers_packet c.args.self.now.gathered c.add_rows.new.self
    (length story.book) story.before story.made own c.args.packet.now e
    c.take_closed.result.items stands.gathered within is
    (c.take_closed.ensures.rows own more taken after) c.in_ok-add_rows.ensures)

pub returns-clause-tells : goal.returns-clause-tells
returns-clause-tells c =
    let one = c.index_mut-subscriber.result.now in
    let did = c.in_ok-handled.ensures in
    let verdict = verdict_of c.in_ok-handled.handled.judged in
    tells_packet c.args.self.now _ c.args.number c.args.slot c.slot.inside.0 c.args.packet.now one
    c.take_closed.new.self verdict c.take_closed.result.items c.args.report.now c.push_handled.new.report
    c.requires.room.holds.places c.requires.known c.slot.view_is c.index_mut-subscriber.ensures.value
    (record {
      left = c.judge.new.self;
      met = record { counters = did.goes_on; others = did.counted };
      verdict_is = did.planned;
      rows_are = c.take_closed.ensures.closed;
      taken = c.take_closed.ensures.same
          ∙ ap (λ counters. record c.judge.new.self { counters = counters }) c.take_closed.ensures.left;
    })
    refl refl c.in_ok-add_rows.ensures
    (c.in_ok-push_handled.ensures ∙ (λ i. c.args.report.now ++ text_line (entry.Line (line_entry.P
    (judged_by c.args.number c.args.slot (did.number i) (did.commands i) verdict)))))
