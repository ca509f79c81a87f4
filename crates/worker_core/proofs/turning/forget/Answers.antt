use Rattle.std.proofs.Common.{rules}
use Rattle.std.proofs.lemmas.Fn.{filter_same}
use Rattle.worker_core.specs.declared.worker.Leaving.{Leaving}
use Rattle.std.specs.Prelude.{not, nat_eq}
use Rattle.worker_core.proofs.turning.forget.Goals as goal

pub returns-clause-kept : goal.returns-clause-kept
returns-clause-kept c = filter_same _ (λ (leaving : Leaving). not (nat_eq leaving.slot c.args.slot)) _
    (λ x b f' k. search rules) _ _ c.retain.ensures.filtered
