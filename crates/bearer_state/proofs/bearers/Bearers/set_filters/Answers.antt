use Rattle.std.proofs.Common.{position, sym, ap, ◌∙◌}
use Rattle.bearer_state.specs.Bearer.{is_active}
use Rattle.bearer_state.specs.Changes.{with_first, filtered}
use Rattle.bearer_state.proofs.FirstLemmas.{with_first-set, with_first-none, none_from_not}
use Rattle.bearer_state.proofs.BearerLemmas.{bearers_filtered}
use Rattle.bearer_state.proofs.bearers.Bearers.set_filters.Goals as goal

pub invariant_of-self : goal.invariant_of-self
invariant_of-self c =
    let changed = with_first-set (is_active c.args.ebi)
    (filtered c.args.filters) c.self.inside.items.items c.in-Some.at c.index_mut-bearer.result.now
    c.index_mut-bearer.ensures.value (ap (position (is_active c.args.ebi)) (sym c.deref.ensures.value)
    ∙ sym c.place_active.ensures ∙ c.in-Some.is) in
    rw changed (bearers_filtered (is_active c.args.ebi) c.args.filters c.self.inside.items.items c.self.invariant)

pub returns-in-Some : goal.returns-in-Some
returns-in-Some c =
    let changed = with_first-set (is_active c.args.ebi)
    (filtered c.args.filters) c.self.inside.items.items c.in-Some.at c.index_mut-bearer.result.now
    c.index_mut-bearer.ensures.value (ap (position (is_active c.args.ebi)) (sym c.deref.ensures.value)
    ∙ sym c.place_active.ensures ∙ c.in-Some.is) in
    changed ∙ ap (with_first (is_active c.args.ebi) (filtered c.args.filters)) c.self.view_is

pub returns-in_default : goal.returns-in_default
returns-in_default c =
    let same = with_first-none (is_active c.args.ebi) (filtered c.args.filters) c.self.inside.items.items
    (ap (position (is_active c.args.ebi)) (sym c.deref.ensures.value) ∙ sym c.place_active.ensures
    ∙ none_from_not c.place_active.result c.in_default.not-Some) in
    sym c.self.view_is ∙ sym same ∙ ap (with_first (is_active c.args.ebi) (filtered c.args.filters)) c.self.view_is
