use Rattle.std.proofs.Common.{List, sym, subst}
use Rattle.std.specs.List.{Contains}
use Rattle.bearer_state.specs.declared.version.ActiveBearer.{ActiveBearer}
use Rattle.packet_steps.proofs.BearerLemmas.{found_there, found_in_range, found_ebi, index_found}
use Rattle.packet_steps.proofs.judging.active_at.Goals as goal

pub returns-then-bearer-index-clause-value : goal.returns-then-bearer-index-clause-value
returns-then-bearer-index-clause-value c =
    let bearer = c.index-bearers-place.result in
    index_found c.args.version.now bearer c.args.index c.bearers-bearers.ensures.valid
    (subst (λ (xs : List ActiveBearer). Contains xs bearer) c.bearers-bearers.ensures.value
    (c.from-place.result, c.if-place-bearers.true, sym c.index-bearers-place.is)) c.if-bearer-index.true

pub returns-clause-there : goal.returns-clause-there
returns-clause-there c = found_there c.args.version.now.bearers c.args.index c.bearer_at.result c.bearer_at.ensures.value

pub returns-clause-index : goal.returns-clause-index
returns-clause-index c =
    found_in_range c.args.version.now c.bearer_at.result c.bearers-bearers.ensures.valid
    (found_there c.args.version.now.bearers c.args.index c.bearer_at.result c.bearer_at.ensures.value)

pub returns-clause-ebi : goal.returns-clause-ebi
returns-clause-ebi c =
    found_ebi c.args.version.now c.bearer_at.result c.bearers-bearers.ensures.valid
    (found_there c.args.version.now.bearers c.args.index c.bearer_at.result c.bearer_at.ensures.value)
