use Rattle.std.proofs.Common.{◌+◌, ◌∷◌, ◌++◌, [], length, length-append, sym}
use Rattle.solo_command.specs.Holding.{gateway_of}
use Rattle.solo_command.proofs.GiveLemmas.{may_enter_late, may_enter_room, told_lines, told_more}
use Rattle.solo_command.proofs.resumer.ResumerReporter.take.Goals as goal

pub enter-requires-clause-room : goal.enter-requires-clause-room
enter-requires-clause-room c =
    let r = c.requires in may_enter_room _ _ _ _ _ _ _ _ r.6 r.7.few

pub enter-requires-clause-late : goal.enter-requires-clause-late
enter-requires-clause-late c =
    let r = c.requires in may_enter_late _ _ _ _ _ _ _ _ _ r.6 r.7.late

pub returns : goal.returns
returns c = λ first done latest closed open_ sent told due.
    told_lines (gateway_of first.solo) c.enter.new.self (length done + 1) (length (done ++ c.args.line.now ∷ []))
    c.args.line.now.moment closed (open_ ++ c.args.line.now ∷ []) sent c.enter.new.report
    (sym (length-append done (c.args.line.now ∷ [])))
    (told_more (gateway_of first.solo) c.args.self.now.solo c.enter.new.self (length done) latest closed open_ sent
    c.args.text.now c.enter.new.report c.args.line.now told c.in_ok-enter.ensures.answers due.late)
