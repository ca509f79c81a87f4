use Rattle.epoch_schedule.proofs.passing.lower_in.Goals as goal

pub returns-then-is_due-clause-less : goal.returns-then-is_due-clause-less
returns-then-is_due-clause-less c = λ t below.
    let less = c.lower.ensures.less t below in
    (less.0, λ above stands. absurd (less.1 above stands))

pub returns-clause-less : goal.returns-clause-less
returns-clause-less c = λ t below. (below, λ above stands. c.if-is_due.ensures t stands)
