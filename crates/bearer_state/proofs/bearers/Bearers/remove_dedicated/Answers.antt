use Rattle.std.proofs.Common.{position, sym, ap, ◌∙◌}
use Rattle.bearer_state.specs.Lookup.{is_dedicated}
use Rattle.bearer_state.specs.Changes.{without_first}
use Rattle.bearer_state.proofs.FirstLemmas.{without_first-at, without_first-none, none_from_not}
use Rattle.bearer_state.proofs.BearerLemmas.{bearers_without}
use Rattle.bearer_state.proofs.bearers.Bearers.remove_dedicated.Goals as goal

pub invariant_of-self : goal.invariant_of-self
invariant_of-self c =
    let gone = without_first-at (is_dedicated c.args.ebi) c.self.inside.items.items c.in-Some.at
    (ap (position (is_dedicated c.args.ebi)) (sym c.deref.ensures.value) ∙ sym c.place_dedicated.ensures
    ∙ c.in-Some.is) in
    rw (c.remove-bearer.ensures.items, gone) (bearers_without
    (is_dedicated c.args.ebi) c.self.inside.items.items c.self.invariant)

pub returns-in-Some : goal.returns-in-Some
returns-in-Some c =
    let gone = without_first-at (is_dedicated c.args.ebi) c.self.inside.items.items c.in-Some.at
    (ap (position (is_dedicated c.args.ebi)) (sym c.deref.ensures.value) ∙ sym c.place_dedicated.ensures
    ∙ c.in-Some.is) in
    c.remove-bearer.ensures.items ∙ gone ∙ ap (without_first (is_dedicated c.args.ebi)) c.self.view_is

pub returns-in_default : goal.returns-in_default
returns-in_default c =
    let same = without_first-none (is_dedicated c.args.ebi) c.self.inside.items.items
    (ap (position (is_dedicated c.args.ebi)) (sym c.deref.ensures.value) ∙ sym c.place_dedicated.ensures
    ∙ none_from_not c.place_dedicated.result c.in_default.not-Some) in
    sym c.self.view_is ∙ sym same ∙ ap (without_first (is_dedicated c.args.ebi)) c.self.view_is
