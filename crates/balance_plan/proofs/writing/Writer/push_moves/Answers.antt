use Rattle.std.proofs.Common.{◌++◌, ◌∷◌, [], refl, sym, ◌∙◌, subst, map, take, append-nil}
use Rattle.balance_plan.specs.Plans.{move_line}
use Rattle.balance_plan.specs.Written.{planned}
use Rattle.balance_plan.specs.Writing.{Stands}
use Rattle.balance_plan.proofs.WriterLemmas.{moves_more}
use Rattle.balance_plan.proofs.writing.Writer.push_moves.Goals as goal

pub loop-step-init : goal.loop-step-init
loop-step-init c = record {
  writer = c.requires.writer;
  book = refl;
  slices = refl;
  most = refl;
  lines = refl;
  fence = refl;
  stands = λ written stands. subst (Stands c.args.self.now) (sym (append-nil written)) stands;
}

pub loop-step-preserved : goal.loop-step-preserved
loop-step-preserved c =
    let fence = c.args.fence.now in
    let book = c.args.self.now.book in
    let steps = c.args.steps.now in
    let i = c.loop-step.step-index in
    let step = c.step-item.result in
    let held = c.loop-step.invariant in
    let done = c.in_ok-push_move.ensures in
    record {
      writer = done.writer;
      book = done.book ∙ held.book;
      slices = done.slices ∙ held.slices;
      most = done.most ∙ held.most;
      lines = done.lines ∙ held.lines;
      fence = done.fence ∙ held.fence;
      stands = λ written stands.
          let before = written ++ map planned (map (move_line fence book) (take i steps)) in
          subst (Stands c.push_move.new.self) (moves_more written fence book steps i step c.loop-step-test.true c.step-item.is)
          (subst (λ b. Stands c.push_move.new.self (before ++ planned (move_line fence b step) ∷ [])) held.book
          (done.stands before (held.stands written stands)));
    }
