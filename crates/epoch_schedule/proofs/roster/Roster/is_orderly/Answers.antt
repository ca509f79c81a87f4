use Rattle.std.proofs.Common.{rules, ◌≤◌, length, subst, refl}
use Rattle.std.proofs.lemmas.Bool.{OnTrue_from, ltb-true}
use Rattle.epoch_schedule.specs.Rounds.{IsOrderly}
use Rattle.epoch_schedule.specs.Rosters.{present, place_at}
use Rattle.epoch_schedule.proofs.Indices.{indexed_same}
use Rattle.epoch_schedule.proofs.Order.{orderly_by}
use Rattle.epoch_schedule.proofs.Rosters.{now_of}
use Rattle.epoch_schedule.proofs.roster.Roster.is_orderly.Goals as goal

pub returns-then-len-slots : goal.returns-then-len-slots
returns-then-len-slots c =
    let own = c.self.inside in
    let halves = c.as_slice-halves.result.now in
    let value = c.as_slice-halves.ensures.value in
    let few : length own.index.items ≤ c.args.slots = search rules in
    OnTrue_from _ _ (λ is.
    subst (IsOrderly c.args.slots) c.self.view_is
    (subst (λ hs. IsOrderly c.args.slots (now_of (present hs) (place_at hs own.next))) value
    (orderly_by c.args.slots halves own.index.items c.first_from.result own.next
    (indexed_same own.halves.items halves own.index.items own.index.items value refl
    (c.self.invariant.indexed (search rules))) few (c.first_from.ensures.here (ltb-true _ _ is))
    c.first_from.ensures.place)))
