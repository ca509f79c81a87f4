use Rattle.std.proofs.Common.{sym, ◌∙◌}
use Rattle.std.proofs.lemmas.Bool.{false≢true}
use Rattle.packet_steps.proofs.ResultLemmas.{on_ok}
use Rattle.packet_steps.proofs.meters.Meters.keep_place.Goals as goal

pub returns-then-is_guaranteed-clause-kept : goal.returns-then-is_guaranteed-clause-kept
returns-then-is_guaranteed-clause-kept c = on_ok c.keep_own.result (λ some guaranteed. some) c.keep_own.ensures.kept

pub returns-clause-kept : goal.returns-clause-kept
returns-clause-kept c = λ guaranteed.
    absurd (false≢true (sym c.if-is_guaranteed.false ∙ c.is_guaranteed.ensures ∙ guaranteed))
