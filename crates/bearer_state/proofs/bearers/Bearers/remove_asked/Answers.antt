use Rattle.std.proofs.Common.{position, sym, ap, ◌∙◌}
use Rattle.bearer_state.specs.Bearer.{is_asked}
use Rattle.bearer_state.specs.Changes.{without_first}
use Rattle.bearer_state.proofs.FirstLemmas.{without_first-at, without_first-none, none_from_not}
use Rattle.bearer_state.proofs.BearerLemmas.{bearers_without}
use Rattle.bearer_state.proofs.bearers.Bearers.remove_asked.Goals as goal

pub invariant_of-self : goal.invariant_of-self
invariant_of-self c =
    let gone = without_first-at (is_asked c.args.seq) c.self.inside.items.items c.in-Some.at
    (ap (position (is_asked c.args.seq)) (sym c.deref.ensures.value) ∙ sym c.place_asked.ensures ∙ c.in-Some.is) in
    rw (c.remove-bearer.ensures.items, gone) (bearers_without
    (is_asked c.args.seq) c.self.inside.items.items c.self.invariant)

pub returns-in-Some : goal.returns-in-Some
returns-in-Some c =
    let gone = without_first-at (is_asked c.args.seq) c.self.inside.items.items c.in-Some.at
    (ap (position (is_asked c.args.seq)) (sym c.deref.ensures.value) ∙ sym c.place_asked.ensures ∙ c.in-Some.is) in
    c.remove-bearer.ensures.items ∙ gone ∙ ap (without_first (is_asked c.args.seq)) c.self.view_is

pub returns-in_default : goal.returns-in_default
returns-in_default c =
    let same = without_first-none (is_asked c.args.seq) c.self.inside.items.items
    (ap (position (is_asked c.args.seq)) (sym c.deref.ensures.value) ∙ sym c.place_asked.ensures
    ∙ none_from_not c.place_asked.result c.in_default.not-Some) in
    sym c.self.view_is ∙ sym same ∙ ap (without_first (is_asked c.args.seq)) c.self.view_is
