use Rattle.std.proofs.Common.{◌≡◌, ◌++◌, ◌∷◌, [], OnOk, sym, ap, subst, ◌∙◌}
use Rattle.demux.specs.Resolved.{book_with, slot_of}
use Rattle.demux.specs.Trace.{command as commanded}
use Rattle.demux.specs.declared.decision.Decision.TheVariants as decision
use Rattle.solo_command.specs.Holding.{Tells}
use Rattle.solo_command.proofs.Answered.{on_ok}
use Rattle.solo_command.proofs.TellLemmas.{room_admitted, tells_admitted}
use Rattle.solo_command.specs.Standing.{Stands, entry_line, with_book, with_meaning}
use Rattle.solo_command.proofs.solo.Solo.command.Goals as goal

pub answer-requires-in-New-clause-room : goal.answer-requires-in-New-clause-room
answer-requires-in-New-clause-room c =
    room_admitted c.args.self.now c.admit.new.self c.in-New.imsi c.requires.room c.in_ok-slot-in-New.ensures.admits

pub returns-in_ok-slot-in-New-clause-told : goal.returns-in_ok-slot-in-New-clause-told
returns-in_ok-slot-in-New-clause-told c = λ story stands numbered.
    let own = c.in_ok-slot-in-New.ensures.slot story stands ∙ ap (slot_of story.book) (sym c.in-New.is) in
    subst (λ slot. OnOk c.answer-in-New.result (c.answer-in-New.new.report ≡ c.args.report.now
    ++ entry_line story (commanded slot c.args.command.now))) own
    (c.answer-in-New.ensures.told (with_book story (story.book ++ c.in-New.imsi ∷ []))
    (c.in_ok-slot-in-New.ensures.stands story stands) numbered)

pub returns-in_ok-slot-in-New-clause-stands : goal.returns-in_ok-slot-in-New-clause-stands
returns-in_ok-slot-in-New-clause-stands c = λ story stands.
    let own = c.in_ok-slot-in-New.ensures.slot story stands ∙ ap (slot_of story.book) (sym c.in-New.is) in
    let book = ap (book_with story.book) (sym c.in-New.is) in
    subst (λ b. OnOk c.answer-in-New.result (Stands c.answer-in-New.new.self
    (with_book (with_meaning story (commanded (slot_of story.book c.args.whose) c.args.command.now)) b))) book
    (subst (λ slot. OnOk c.answer-in-New.result (Stands c.answer-in-New.new.self
    (with_book (with_meaning story (commanded slot c.args.command.now)) (story.book ++ c.in-New.imsi ∷ [])))) own
    (c.answer-in-New.ensures.stands (with_book story (story.book ++ c.in-New.imsi ∷ []))
    (c.in_ok-slot-in-New.ensures.stands story stands)))

pub returns-in_ok-slot-in-New-clause-tells : goal.returns-in_ok-slot-in-New-clause-tells
returns-in_ok-slot-in-New-clause-tells c =
    on_ok c.answer-in-New.result
    (λ tells. subst (λ w. Tells c.args.number (decision.Command w c.args.command.now) c.args.self.now
    c.answer-in-New.new.self c.args.report.now c.answer-in-New.new.report) (sym c.in-New.is)
    (tells_admitted c.args.self.now c.admit.new.self c.answer-in-New.new.self c.args.number c.in_ok-slot-in-New.slot
    c.in-New.imsi c.args.command.now c.args.report.now c.answer-in-New.new.report c.in_ok-slot-in-New.ensures.admits
    c.in_ok-slot-in-New.ensures.next c.in_ok-slot-in-New.ensures.waits tells))
    c.answer-in-New.ensures.tells
