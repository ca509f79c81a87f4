use Rattle.std.proofs.Common.{◌≡◌, ◌++◌, ap, ◌∙◌}
use Rattle.balance_plan.specs.Written.{given, written_text}
use Rattle.balance_plan.proofs.WriterLemmas.{on_ok, stands_next}
use Rattle.balance_plan.proofs.writing.Writer.give.Goals as goal

pub returns-clause-stands : goal.returns-clause-stands
returns-clause-stands c = λ written stands.
    on_ok (c.push_line.new.text ≡ c.note.new.self.text ++ written_text (given c.args.line.now)) _
    c.push_line.result
    (λ text. stands_next c.args.self.now _ written (given c.args.line.now) c.in_ok-made.made stands
    c.in_ok-made.ensures.decision c.in_ok-made.ensures.book c.in_ok-note.ensures.slices c.in_ok-note.ensures.book
    c.in_ok-note.ensures.bound
    (text ∙ ap (λ t. t ++ written_text (given c.args.line.now)) c.in_ok-note.ensures.text))
    c.push_line.ensures
