use Rattle.std.proofs.Common.{◌∙◌, ap, arith}
use Rattle.audit_core.specs.Dues.{effects_lent}
use Rattle.audit_core.specs.Judged.{Before, With, asked_of}
use Rattle.audit_core.specs.Ranks.{rank_of}
use Rattle.slot_execution.specs.Replaying.{effects_told, rows_told}
use Rattle.audit_core.specs.declared.sentence.Sentence.TheVariants as of
use Rattle.audit_core.proofs.EndSteps.{effects_by, rows_by}
use Rattle.audit_core.proofs.JudgeSteps.{not_wanted}
use Rattle.audit_core.proofs.JudgedAll.{effects_led, judged_six, judged_ten, rows_led}
use Rattle.audit_core.proofs.OfferLemmas.{all_done}
use Rattle.audit_core.proofs.judge.Judge.judge_all.Goals as goal

pub returns-then-not-wants-clause-judged : goal.returns-then-not-wants-clause-judged
returns-then-not-wants-clause-judged c = λ own at told led judged.
    let six = judged_six own at c.args.lines.now c.args.report.now c.args.entries.now told c.args.slots
    c.args.self.now.setup c.args.walked c.args.played led c.args.self.now c.offer.new.self c.offer-2.new.self
    c.offer-3.new.self c.offer.ensures.broken c.offer.ensures.entries c.offer-2.ensures.broken
    c.offer-2.ensures.entries c.offer-3.ensures.broken c.offer-3.ensures.entries judged in
    all_done own (Before own at) (With own at) c.offer-3.new.self.broken 6
    (not_wanted c.wants.result (rank_of of.Effects) (asked_of c.offer-3.new.self.broken) c.wants.ensures
    c.if-not-wants.true) six.partly

pub returns-then-not-wants-clause-counted : goal.returns-then-not-wants-clause-counted
returns-then-not-wants-clause-counted c = λ own at told led judged less.
    absurd (omega (
      arith,
      less,
      not_wanted c.wants.result (rank_of of.Effects) (asked_of c.offer-3.new.self.broken) c.wants.ensures
          c.if-not-wants.true,
    ))

pub judge_effects-requires : goal.judge_effects-requires
judge_effects-requires c =
    let own = c.requires.0 in
    let at = c.requires.1 in
    let told = c.requires.2 in
    let led = c.requires.3 in
    effects_by own at c.args.slots (effects_lent c.as_slice-effects.result.now) led.many
    (effects_led own at c.args.lines.now c.args.report.now c.args.entries.now told c.args.slots
    c.args.self.now.setup c.args.walked c.args.played led (effects_lent c.as_slice-effects.result.now)
    (ap effects_lent c.as_slice-effects.ensures.value ∙ c.in_ok-caused.ensures ∙ ap effects_told c.as_slice.ensures.value))

pub judge_rows-requires : goal.judge_rows-requires
judge_rows-requires c =
    let own = c.requires.0 in
    let at = c.requires.1 in
    let told = c.requires.2 in
    let led = c.requires.3 in
    rows_by own at c.args.slots c.as_slice-rows.result.now led.many
    (rows_led own at c.args.lines.now c.args.report.now c.args.entries.now told c.args.slots
    c.args.self.now.setup c.args.walked c.args.played led c.as_slice-rows.result.now
    (c.as_slice-rows.ensures.value ∙ c.in_ok-closed.ensures ∙ ap rows_told c.as_slice-2.ensures.value))

pub judge_order-requires : goal.judge_order-requires
judge_order-requires c =
    let own = c.requires.0 in
    let at = c.requires.1 in
    let told = c.requires.2 in
    let led = c.requires.3 in
    let six = judged_six own at c.args.lines.now c.args.report.now c.args.entries.now told c.args.slots
    c.args.self.now.setup c.args.walked c.args.played led c.args.self.now c.offer.new.self c.offer-2.new.self
    c.offer-3.new.self c.offer.ensures.broken c.offer.ensures.entries c.offer-2.ensures.broken
    c.offer-2.ensures.entries c.offer-3.ensures.broken c.offer-3.ensures.entries c.requires.4 in
    let effects = effects_led own at c.args.lines.now c.args.report.now c.args.entries.now told c.args.slots
    c.args.self.now.setup c.args.walked c.args.played led (effects_lent c.as_slice-effects.result.now)
    (ap effects_lent c.as_slice-effects.ensures.value ∙ c.in_ok-caused.ensures ∙ ap effects_told c.as_slice.ensures.value) in
    let rows = rows_led own at c.args.lines.now c.args.report.now c.args.entries.now told c.args.slots
    c.args.self.now.setup c.args.walked c.args.played led c.as_slice-rows.result.now
    (c.as_slice-rows.ensures.value ∙ c.in_ok-closed.ensures ∙ ap rows_told c.as_slice-2.ensures.value) in (
      own,
      at,
      told,
      judged_ten own at c.args.lines.now c.args.report.now c.args.entries.now told c.args.slots
          c.args.self.now.setup c.args.walked c.args.played led c.judge_rows.new.self c.offer-4.new.self
          c.offer-4.ensures.broken c.offer-4.ensures.entries
          (c.in_ok-judge_rows.ensures.judged own at told.epoch led.many rows
          (c.in_ok-judge_effects.ensures.judged own at told.epoch led.many effects six)),
    )

pub returns-clause-judged : goal.returns-clause-judged
returns-clause-judged c = λ own at told led judged.
    let six = judged_six own at c.args.lines.now c.args.report.now c.args.entries.now told c.args.slots
    c.args.self.now.setup c.args.walked c.args.played led c.args.self.now c.offer.new.self c.offer-2.new.self
    c.offer-3.new.self c.offer.ensures.broken c.offer.ensures.entries c.offer-2.ensures.broken
    c.offer-2.ensures.entries c.offer-3.ensures.broken c.offer-3.ensures.entries judged in
    let effects = effects_led own at c.args.lines.now c.args.report.now c.args.entries.now told c.args.slots
    c.args.self.now.setup c.args.walked c.args.played led (effects_lent c.as_slice-effects.result.now)
    (ap effects_lent c.as_slice-effects.ensures.value ∙ c.in_ok-caused.ensures ∙ ap effects_told c.as_slice.ensures.value) in
    let rows = rows_led own at c.args.lines.now c.args.report.now c.args.entries.now told c.args.slots
    c.args.self.now.setup c.args.walked c.args.played led c.as_slice-rows.result.now
    (c.as_slice-rows.ensures.value ∙ c.in_ok-closed.ensures ∙ ap rows_told c.as_slice-2.ensures.value) in
    c.judge_order.ensures.judged own at told effects rows
    (judged_ten own at c.args.lines.now c.args.report.now c.args.entries.now told c.args.slots
    c.args.self.now.setup c.args.walked c.args.played led c.judge_rows.new.self c.offer-4.new.self
    c.offer-4.ensures.broken c.offer-4.ensures.entries
    (c.in_ok-judge_rows.ensures.judged own at told.epoch led.many rows
    (c.in_ok-judge_effects.ensures.judged own at told.epoch led.many effects six)))

pub returns-clause-counted : goal.returns-clause-counted
returns-clause-counted c = λ own at told led judged.
    let six = judged_six own at c.args.lines.now c.args.report.now c.args.entries.now told c.args.slots
    c.args.self.now.setup c.args.walked c.args.played led c.args.self.now c.offer.new.self c.offer-2.new.self
    c.offer-3.new.self c.offer.ensures.broken c.offer.ensures.entries c.offer-2.ensures.broken
    c.offer-2.ensures.entries c.offer-3.ensures.broken c.offer-3.ensures.entries judged in
    let effects = effects_led own at c.args.lines.now c.args.report.now c.args.entries.now told c.args.slots
    c.args.self.now.setup c.args.walked c.args.played led (effects_lent c.as_slice-effects.result.now)
    (ap effects_lent c.as_slice-effects.ensures.value ∙ c.in_ok-caused.ensures ∙ ap effects_told c.as_slice.ensures.value) in
    let rows = rows_led own at c.args.lines.now c.args.report.now c.args.entries.now told c.args.slots
    c.args.self.now.setup c.args.walked c.args.played led c.as_slice-rows.result.now
    (c.as_slice-rows.ensures.value ∙ c.in_ok-closed.ensures ∙ ap rows_told c.as_slice-2.ensures.value) in
    c.judge_order.ensures.counted own at told effects rows
    (judged_ten own at c.args.lines.now c.args.report.now c.args.entries.now told c.args.slots
    c.args.self.now.setup c.args.walked c.args.played led c.judge_rows.new.self c.offer-4.new.self
    c.offer-4.ensures.broken c.offer-4.ensures.entries
    (c.in_ok-judge_rows.ensures.judged own at told.epoch led.many rows
    (c.in_ok-judge_effects.ensures.judged own at told.epoch led.many effects six)))
