use Rattle.std.proofs.Common.{sym, ap, subst, ◌∙◌, arith}
use Rattle.std.proofs.lemmas.Result.{IfOk-weaker}
use Rattle.demux.specs.declared.decision.Decision.{Decision}
use Rattle.demux.specs.declared.decision.Decision.TheVariants as decision
use Rattle.demux.specs.Resolved.{HasMoment, IsDecision, book_behind}
use Rattle.at_rest.proofs.Resting.{new_rests}
use Rattle.at_rest.specs.Meant.{GoesOrStays, Turned}
use Rattle.at_rest.proofs.Turning.{IsDecided, turned_command, turned_note, turned_order, turned_packet}
use Rattle.at_rest.proofs.deciding.decide_line.Goals as goal

pub returns-in_ok-slot-in-Command : goal.returns-in_ok-slot-in-Command
returns-in_ok-slot-in-Command c =
    let made : Decision = decision.Command c.in-Command.whose c.in-Command.command in
    let is : IsDecided c.args.slices c.args.book.now c.args.line.now made = record {
      decision = sym c.in-Command.is ∙ c.in_ok-whose.ensures.decision;
      behind = ap (book_behind c.args.book.now) (sym c.in-Command.is) ∙ c.in_ok-whose.ensures.book;
    } in
    turned_command new_rests c.args.slices c.args.book.now c.args.subscribers.now.items c.args.line.now
    c.in-Command.whose c.in-Command.command c.in_ok-slot-in-Command.slot c.admit.new.book c.admit.new.subscribers.items
    c.requires.slices.0 (omega (arith, c.requires.many, c.args.subscribers.now.ok.0)) is
    (subst (IsDecision c.args.slices c.args.book.now) c.in-Command.is c.in_ok-whose.ensures.valid)
    c.in_ok-slot-in-Command.ensures.slot c.in_ok-slot-in-Command.ensures.book c.in_ok-slot-in-Command.ensures.subscribers

pub returns-in-Packet : goal.returns-in-Packet
returns-in-Packet c =
    let made : Decision = decision.Packet c.in-Packet.slot c.in-Packet.packet in
    let is : IsDecided c.args.slices c.args.book.now c.args.line.now made = record {
      decision = sym c.in-Packet.is ∙ c.in_ok-whose.ensures.decision;
      behind = ap (book_behind c.args.book.now) (sym c.in-Packet.is) ∙ c.in_ok-whose.ensures.book;
    } in
    turned_packet c.args.slices c.args.book.now c.args.subscribers.now.items c.args.line.now c.in-Packet.slot
    c.in-Packet.packet (omega (arith, c.requires.many, c.args.subscribers.now.ok.0)) is
    (subst (IsDecision c.args.slices c.args.book.now) c.in-Packet.is c.in_ok-whose.ensures.valid)
    (subst (HasMoment c.args.line.now.moment) c.in-Packet.is c.in_ok-whose.ensures.moment)

pub returns-in-Note : goal.returns-in-Note
returns-in-Note c =
    let made : Decision = decision.Note c.in-Note.text in
    let is : IsDecided c.args.slices c.args.book.now c.args.line.now made = record {
      decision = sym c.in-Note.is ∙ c.in_ok-whose.ensures.decision;
      behind = ap (book_behind c.args.book.now) (sym c.in-Note.is) ∙ c.in_ok-whose.ensures.book;
    } in
    turned_note c.args.slices c.args.book.now c.args.subscribers.now.items c.args.line.now c.in-Note.text
    (omega (arith, c.requires.many, c.args.subscribers.now.ok.0)) is

pub returns-in-Move : goal.returns-in-Move
returns-in-Move c =
    let made : Decision = decision.Move c.in-Move.slot c.in-Move.slice in
    let is : IsDecided c.args.slices c.args.book.now c.args.line.now made = record {
      decision = sym c.in-Move.is ∙ c.in_ok-whose.ensures.decision;
      behind = ap (book_behind c.args.book.now) (sym c.in-Move.is) ∙ c.in_ok-whose.ensures.book;
    } in
    let valid : IsDecision c.args.slices c.args.book.now made =
    subst (IsDecision c.args.slices c.args.book.now) c.in-Move.is c.in_ok-whose.ensures.valid in
    IfOk-weaker c.go.result
    (λ meant. GoesOrStays c.args.subscribers.now.items c.go.new.subscribers.items c.in-Move.slot c.in-Move.slice meant)
    (λ meant. Turned c.args.slices c.args.book.now c.args.subscribers.now.items c.args.line.now meant c.args.book.now
    c.go.new.subscribers.items)
    (λ meant does.
    turned_order c.args.slices c.args.book.now c.args.subscribers.now.items c.args.line.now c.in-Move.slot
    c.in-Move.slice meant c.go.new.subscribers.items
    (omega (arith, c.requires.many, c.args.subscribers.now.ok.0)) is valid.0 valid.1 does)
    c.go.ensures
