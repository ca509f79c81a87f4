use Rattle.std.proofs.Common.{◌<◌, ◌++◌, ◌∙◌, IfNone, IfSome, length, sym, subst, arith}
use Rattle.audit_core.specs.Dues.{DiffersAt, StandsSo, effects_lent, entries_due}
use Rattle.audit_core.specs.Judged.{Before, With, Partly, asked_of, due_of}
use Rattle.audit_core.specs.Ranks.{rank_of}
use Rattle.audit_core.specs.declared.sentence.Sentence.TheVariants as of
use Rattle.audit_core.proofs.BelongLemmas.{stand_in}
use Rattle.audit_core.proofs.JudgeSteps.{counted_step, not_wanted, order_step, so_before}
use Rattle.audit_core.proofs.OfferLemmas.{all_done}
use Rattle.audit_core.proofs.judge.Judge.judge_order.Goals as goal

pub returns-then-not-wants-clause-judged : goal.returns-then-not-wants-clause-judged
returns-then-not-wants-clause-judged c = λ own at told effects_are rows_are judged.
    all_done own (Before own at) (With own at) c.args.self.now.broken 10
    (not_wanted c.wants.result (rank_of of.Order) (asked_of c.args.self.now.broken) c.wants.ensures
    c.if-not-wants.true) judged.partly

pub returns-then-not-wants-clause-counted : goal.returns-then-not-wants-clause-counted
returns-then-not-wants-clause-counted c = λ own at told effects_are rows_are judged less.
    absurd (omega (
      arith,
      less,
      not_wanted c.wants.result (rank_of of.Order) (asked_of c.args.self.now.broken) c.wants.ensures
          c.if-not-wants.true,
    ))

pub epoch_order-requires : goal.epoch_order-requires
epoch_order-requires c =
    let own = c.requires.0 in
    let at = c.requires.1 in
    let told = c.requires.2 in
    let low : rank_of of.Order < asked_of c.args.self.now.broken = c.wants.ensures.0 c.if-not-wants.false in (
      own.made,
      own.entries,
      due_of own at.told,
      told.held,
      stand_in own.made own.entries c.args.entries.now (length at.prefix) told.epoch.those,
      so_before own at c.args.self.now.entries (c.requires.3.partly.old of.Order low (omega arith))
          (c.requires.3.counted low),
    )

pub returns-clause-judged : goal.returns-clause-judged
returns-clause-judged c = λ own at told effects_are rows_are judged.
    let low : rank_of of.Order < asked_of c.args.self.now.broken = c.wants.ensures.0 c.if-not-wants.false in
    let stood = stand_in own.made own.entries c.args.entries.now (length at.prefix) told.epoch.those in
    let so = so_before own at c.args.self.now.entries (judged.partly.old of.Order low (omega arith)) (judged.counted low) in
    let lines_are = told.is in
    subst (Partly own (Before own at) (With own at) 11) (sym c.offer.ensures.broken)
    (order_step own at told.epoch.parts told.epoch.told_parts told.epoch.as_many (effects_lent c.args.effects.now)
    c.args.rows.now effects_are rows_are c.args.self.now.broken c.in_ok-place.found c.in_ok-place.place
    (subst (λ l. IfSome c.in_ok-place.found (DiffersAt own.entries (due_of own at.told
    ++ entries_due l (effects_lent c.args.effects.now) c.args.rows.now))) lines_are
    (c.in_ok-place.ensures.some own.made own.entries (due_of own at.told) told.held stood so))
    (subst (λ l. IfNone c.in_ok-place.found (StandsSo own.entries (due_of own at.told
    ++ entries_due l (effects_lent c.args.effects.now) c.args.rows.now) c.in_ok-place.place)) lines_are
    (c.in_ok-place.ensures.none own.made own.entries (due_of own at.told) told.held stood so))
    judged.partly)

pub returns-clause-counted : goal.returns-clause-counted
returns-clause-counted c = λ own at told effects_are rows_are judged less.
    let low : rank_of of.Order < asked_of c.args.self.now.broken = c.wants.ensures.0 c.if-not-wants.false in
    let stood = stand_in own.made own.entries c.args.entries.now (length at.prefix) told.epoch.those in
    let so = so_before own at c.args.self.now.entries (judged.partly.old of.Order low (omega arith)) (judged.counted low) in
    c.offer.ensures.entries
    ∙ counted_step own at told.epoch.parts told.epoch.told_parts told.epoch.as_many (effects_lent c.args.effects.now)
    c.args.rows.now effects_are rows_are c.args.self.now.broken c.in_ok-place.found c.in_ok-place.place low
    (subst (λ l. IfNone c.in_ok-place.found (StandsSo own.entries (due_of own at.told
    ++ entries_due l (effects_lent c.args.effects.now) c.args.rows.now) c.in_ok-place.place)) told.is
    (c.in_ok-place.ensures.none own.made own.entries (due_of own at.told) told.held stood so))
    (subst (λ b. rank_of of.Order < asked_of b) c.offer.ensures.broken less)
