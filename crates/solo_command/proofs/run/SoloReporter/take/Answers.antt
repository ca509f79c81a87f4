use Rattle.solo_command.specs.Progress.{closed_events, open_meant}
use Rattle.solo_command.proofs.GiveLemmas.{may_enter_late, may_enter_room}
use Rattle.solo_command.proofs.RunLemmas.{answers}
use Rattle.solo_command.proofs.run.SoloReporter.take.Goals as goal

pub enter-requires-clause-room : goal.enter-requires-clause-room
enter-requires-clause-room c =
    let r = c.requires in may_enter_room _ _ _ _ _ _ _ _ r.6.told r.7.few

pub enter-requires-clause-late : goal.enter-requires-clause-late
enter-requires-clause-late c =
    let r = c.requires in may_enter_late _ _ _ _ _ _ _ _ _ r.6.told r.7.late

pub returns : goal.returns
returns c = λ first done latest closed open_ sent answered due.
    answers c.args.self.now c.enter.new.self done latest closed open_ sent c.args.text.now c.enter.new.report c.args.line.now
    answered
    (c.in_ok-enter.ensures.stands done latest (closed_events closed) (open_meant closed open_) answered.stands due.late)
    (c.in_ok-enter.ensures.told done latest (closed_events closed) (open_meant closed open_) answered.stands
    due.numbered) c.in_ok-enter.ensures.answers due.late
