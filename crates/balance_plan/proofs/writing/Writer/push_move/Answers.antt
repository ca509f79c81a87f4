use Rattle.std.proofs.Common.{◌≡◌, ◌<◌, ◌++◌, ◌∷◌, [], refl, ap, ◌∙◌, arith, get_or, length}
use Rattle.demux.specs.declared.decision.Decision.TheVariants as decision
use Rattle.pc_outside.specs.Limits.{newline}
use Rattle.trace_lines.specs.Text.{line_text}
use Rattle.balance_plan.specs.Plans.{move_line}
use Rattle.balance_plan.specs.Written.{planned}
use Rattle.balance_plan.proofs.WriterLemmas.{bound_set, move_decided, move_keeps, on_ok, stands_next}
use Rattle.balance_plan.proofs.writing.Writer.push_move.Goals as goal

pub returns-clause-stands : goal.returns-clause-stands
returns-clause-stands c = λ written stands.
    let book = c.args.self.now.book in
    let fence = c.args.fence.now in
    let step = c.args.step.now in
    let old = c.args.self.now in
    let line = c.move_of-line.result in
    let is : line ≡ move_line fence book step =
    c.move_of-line.ensures
    ∙ ap (λ imsis. move_line fence imsis step) c.imsis.ensures.value in
    let inside : step.slot < length old.bound.items =
    omega (arith, c.requires.step.slot, c.imsis.ensures.book.short, c.requires.writer.places) in
    on_ok (c.push_line.new.text ≡ old.text ++ (line_text line ++ newline ∷ [])) _ c.push_line.result
    (λ text. stands_next old _ written (planned (move_line fence book step)) (decision.Move step.slot step.slice) stands
    (move_decided old.slices book fence step c.imsis.ensures.book c.requires.step.slot c.requires.step.slice)
    (move_keeps old.slices book fence step c.imsis.ensures.book c.requires.step.slot c.requires.step.slice) refl refl
    (λ slot below. ap (λ b. get_or b slot 0) c.bind.ensures
    ∙ bound_set old.bound.items step.slot step.slice slot inside)
    (text ∙ ap (λ l. old.text ++ (line_text l ++ newline ∷ [])) is))
    c.push_line.ensures
