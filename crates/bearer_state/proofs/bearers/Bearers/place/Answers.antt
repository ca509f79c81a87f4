use Rattle.std.proofs.Common.{◌≡◌, refl}
use Rattle.std.specs.List.{insert}
use Rattle.bearer_state.specs.Changes.{placed}
use Rattle.bearer_state.proofs.BearerLemmas.{bearers_placed}
use Rattle.bearer_state.proofs.bearers.Bearers.place.Goals as goal

pub invariant_of-self-2 : goal.invariant_of-self-2
invariant_of-self-2 c =
    let into : insert c.deref.result.now c.place_of-at.result c.args.bearer
    ≡ placed c.args.bearer c.deref.result.now = c.place_of-at.ensures.value c.args.bearer refl in
    let into_own : insert c.self.inside.items.items c.place_of-at.result c.args.bearer
    ≡ placed c.args.bearer c.self.inside.items.items = rw c.deref.ensures.value at into in
    rw (c.in_ok-insert.ensures.items, into_own)
    (bearers_placed c.args.bearer c.self.inside.items.items c.requires.valid c.requires.asked
    (rw c.self.view_is c.requires.index_free) (rw c.self.view_is c.requires.new_life) c.self.invariant)
