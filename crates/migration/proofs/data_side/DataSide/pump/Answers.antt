use Rattle.std.proofs.Common.{◌≡◌, inr, true≢false, ℕ, Option, Some, None, refl, sym, ◌∙◌}
use Rattle.migration.specs.DataPlaces.{place_at}
use Rattle.migration.proofs.DataCounted.{all_rest}
use Rattle.migration.proofs.DataListings.{waits_due, queues_due}
use Rattle.migration.proofs.DataPumps.{each_pumped, each_offered_same, takes_none}
use Rattle.migration.proofs.DataQueues.{each_same}
use Rattle.migration.proofs.data_side.DataSide.pump.Goals as goal

no_slice : (slice : ℕ) → ◌≡◌ {A = Option ℕ} None (Some slice) → ⊥
no_slice slice is = let none : ⊥ = cc in none

pub returns-then-rests-clause-states : goal.returns-then-rests-clause-states
returns-then-rests-clause-states g c =
    let old = c.args.self.now in
    each_pumped old.places.items old.places.items old.places.items old.places.items
    (takes_none (λ half. g.H.DataTraveller.slot_at (g.H.DataTraveller.name half)) old.places.items old.aside.items).states
    (each_offered_same old.places.items) (λ slot. refl)

pub returns-then-rests-clause-aside : goal.returns-then-rests-clause-aside
returns-then-rests-clause-aside g c =
    let old = c.args.self.now in
    (takes_none (λ half. g.H.DataTraveller.slot_at (g.H.DataTraveller.name half)) old.places.items old.aside.items).keeps

pub returns-then-rests-clause-drains : goal.returns-then-rests-clause-drains
returns-then-rests-clause-drains g c = each_same c.args.self.now.places.items

pub returns-then-rests-clause-rests : goal.returns-then-rests-clause-rests
returns-then-rests-clause-rests g c = λ slot none. none

pub returns-then-rests-clause-full : goal.returns-then-rests-clause-full
returns-then-rests-clause-full g c =
    let old = c.args.self.now in
    let none = c.rests.ensures c.if-rests.true in
    let rest = all_rest old.places.items old.due.items old.leavers old.listed old.counted none.0 none.1 in
    λ slot slice is. absurd (true≢false (sym (waits_due (place_at old.places.items slot) slice is) ∙ (rest slot).0))

pub returns-then-rests-clause-queues : goal.returns-then-rests-clause-queues
returns-then-rests-clause-queues g c =
    let old = c.args.self.now in
    let none = c.rests.ensures c.if-rests.true in
    let rest = all_rest old.places.items old.due.items old.leavers old.listed old.counted none.0 none.1 in
    λ slot slice is some.
    absurd (true≢false (sym (queues_due (place_at old.places.items slot) slice (is, some)) ∙ (rest slot).0))

pub returns-then-rests-clause-home : goal.returns-then-rests-clause-home
returns-then-rests-clause-home g c =
    let old = c.args.self.now in
    let none = c.rests.ensures c.if-rests.true in
    let rest = all_rest old.places.items old.due.items old.leavers old.listed old.counted none.0 none.1 in
    λ slice within. inr (λ slot is. no_slice slice (sym (rest slot).1 ∙ is))

pub returns-then-rests-clause-stays : goal.returns-then-rests-clause-stays
returns-then-rests-clause-stays g c = λ slice none. (refl, refl)
