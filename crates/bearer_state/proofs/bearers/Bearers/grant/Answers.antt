use Rattle.std.proofs.Common.{position, sym, ap, ◌∙◌}
use Rattle.bearer_state.specs.Bearer.{is_asked}
use Rattle.bearer_state.specs.Changes.{with_first, granted_bearer}
use Rattle.bearer_state.proofs.FirstLemmas.{with_first-set, with_first-none, none_from_not}
use Rattle.bearer_state.proofs.BearerLemmas.{bearers_granted}
use Rattle.bearer_state.proofs.bearers.Bearers.grant.Goals as goal

pub invariant_of-self : goal.invariant_of-self
invariant_of-self c =
    let changed = with_first-set (is_asked c.args.seq)
    (granted_bearer c.args.ebi c.args.enb) c.self.inside.items.items c.in-Some.at c.index_mut-bearer.result.now
    c.index_mut-bearer.ensures.value (ap (position (is_asked c.args.seq)) (sym c.deref.ensures.value)
    ∙ sym c.place_asked.ensures ∙ c.in-Some.is) in
    rw changed (bearers_granted (is_asked c.args.seq) c.args.ebi c.args.enb c.self.inside.items.items
    c.requires.ebi (rw c.self.view_is c.requires.free) c.self.invariant)

pub returns-in-Some : goal.returns-in-Some
returns-in-Some c =
    let changed = with_first-set (is_asked c.args.seq)
    (granted_bearer c.args.ebi c.args.enb) c.self.inside.items.items c.in-Some.at c.index_mut-bearer.result.now
    c.index_mut-bearer.ensures.value (ap (position (is_asked c.args.seq)) (sym c.deref.ensures.value)
    ∙ sym c.place_asked.ensures ∙ c.in-Some.is) in
    changed ∙ ap (with_first (is_asked c.args.seq) (granted_bearer c.args.ebi c.args.enb)) c.self.view_is

pub returns-in_default : goal.returns-in_default
returns-in_default c =
    let same = with_first-none (is_asked c.args.seq) (granted_bearer c.args.ebi c.args.enb)
    c.self.inside.items.items (ap (position (is_asked c.args.seq)) (sym c.deref.ensures.value)
    ∙ sym c.place_asked.ensures ∙ none_from_not c.place_asked.result c.in_default.not-Some) in
    sym c.self.view_is ∙ sym same ∙ ap (with_first (is_asked c.args.seq) (granted_bearer c.args.ebi c.args.enb))
    c.self.view_is
