use Rattle.std.proofs.Common.{◌<◌, ◌≤◌, ◌++◌, ◌∷◌, [], List, ℕ, IfSome, map, refl, sym, ap, subst, ◌∙◌, arith, length}
use Rattle.gate_model.specs.declared.event.Event.TheVariants as event
use Rattle.demux.specs.Trace.{command as commanded}
use Rattle.gate_model.specs.SlotPast.{records_after}
use Rattle.report_lines.specs.declared.entry.Entry.TheVariants as entry
use Rattle.report_lines.specs.declared.entry.LineEntry.TheVariants as line_entry
use Rattle.lawful_run.specs.Outcomes.{effect_entry}
use Rattle.solo_command.specs.Entries.{text_line}
use Rattle.solo_command.specs.Gathering.{AddsEffects}
use Rattle.solo_command.specs.Standing.{events_of}
use Rattle.solo_command.proofs.StoryLemmas.{command_holds, command_other, gathers_command, held_at, stands_next, told_command}
use Rattle.solo_command.proofs.TellLemmas.{room_at, tells_command}
use Rattle.solo_command.proofs.solo.Solo.answer.Goals as goal

pub command-requires : goal.command-requires
command-requires c =
    room_at c.args.self.now c.args.slot c.slot.inside.0 c.index_mut-subscriber.result.now c.requires.room c.requires.known
    c.slot.view_is c.index_mut-subscriber.ensures.value

pub returns-clause-told : goal.returns-clause-told
returns-clause-told c = λ story stands numbered.
    let within = subst (λ (b : List (List ℕ)). c.args.slot < length b) stands.same_book c.requires.known in
    let held = held_at c.args.self.now story c.args.slot c.slot.inside.0 c.index_mut-subscriber.result.now stands
    within c.slot.view_is c.index_mut-subscriber.ensures.value in
    let events = events_of story c.args.slot in
    c.in_ok-push_answer.ensures
    ∙ ap (λ text. c.args.report.now ++ text)
    (told_command story c.args.slot c.args.command.now c.args.number c.commands-count.result c.in_ok-reply.reply
    numbered (c.commands-count.ensures ∙ held.stands.commands)
    (c.in_ok-reply.ensures.reply c.args.slot events (length (records_after c.args.slot events)) held.stands))

pub returns-clause-stands : goal.returns-clause-stands
returns-clause-stands c = λ story stands.
    let within = subst (λ (b : List (List ℕ)). c.args.slot < length b) stands.same_book c.requires.known in
    let held = held_at c.args.self.now story c.args.slot c.slot.inside.0 c.index_mut-subscriber.result.now stands
    within c.slot.view_is c.index_mut-subscriber.ensures.value in
    let own = c.args.slot in
    let events = events_of story own in
    let more = events ++ event.Command c.args.command.now ∷ [] in
    let taken = length (records_after own events) in
    let after = c.in_ok-reply.ensures.stands own events taken held.stands in
    let closed = c.take_closed.ensures.stands own more taken after in
    stands_next c.args.self.now _ story (commanded own c.args.command.now) story.bound story.latest own
    c.slot.inside.0 c.take_closed.new.self
    stands within c.slot.view_is refl refl
    (command_holds story own c.args.command.now c.index_mut-subscriber.result.now c.take_closed.new.self
    (story.bound own) story.latest closed
    (c.take_closed.ensures.destination ∙ c.in_ok-reply.ensures.destination ∙ held.bound_for)
    (subst (λ last. IfSome last (λ l. l ≤ story.latest))
    (sym (c.take_closed.ensures.last own more taken after ∙ c.in_ok-reply.ensures.last)) held.in_order))
    (λ slot other. refl) (λ slot other. command_other own slot (events_of story slot) c.args.command.now other)
    (omega arith)
    (gathers_command c.args.self.now.gathered c.add_effects.new.self c.add_rows.new.self
    (length story.book) story.before story.made own
    c.commands-count.result c.args.command.now c.in_ok-reply.effects c.take_closed.result.items stands.gathered within
    (c.commands-count.ensures ∙ held.stands.commands) (c.in_ok-reply.ensures.effects own events taken held.stands)
    (c.take_closed.ensures.rows own more taken after) c.in_ok-add_effects.ensures c.in_ok-add_rows.ensures)

pub returns-clause-tells : goal.returns-clause-tells
returns-clause-tells c =
    let one = c.index_mut-subscriber.result.now in
    let did = c.in_ok-reply.ensures in
    let counted = c.commands-count.ensures in
    tells_command c.args.self.now _ c.add_effects.new.self c.args.number c.args.slot c.slot.inside.0
    c.args.command.now one c.take_closed.new.self c.in_ok-reply.reply c.in_ok-reply.effects c.take_closed.result.items
    c.args.report.now c.push_answer.new.report c.requires.room.holds.places c.requires.known c.slot.view_is
    c.index_mut-subscriber.ensures.value
    (record {
      left = c.command.new.self;
      commanded = record {
        session = did.stepped;
        version = did.versioned;
        counters = did.advances;
        packets = did.counted.1;
        destination = did.destination;
      };
      valid = c.valid.ensures;
      reply_is = did.answered;
      effects_are = did.brings;
      rows_are = c.take_closed.ensures.closed;
      taken = c.take_closed.ensures.same
          ∙ ap (λ counters. record c.command.new.self { counters = counters }) c.take_closed.ensures.left;
    })
    refl refl
    (subst (λ n. AddsEffects c.args.self.now.gathered c.add_effects.new.self c.args.slot
    (map (effect_entry c.args.slot n) c.in_ok-reply.effects)) counted c.in_ok-add_effects.ensures)
    c.in_ok-add_rows.ensures
    (c.in_ok-push_answer.ensures ∙ ap (λ n. c.args.report.now ++ text_line (entry.Line (line_entry.C (record {
      line = c.args.number;
      slot = c.args.slot;
      number = n;
      reply = c.in_ok-reply.reply;
    })))) counted)
