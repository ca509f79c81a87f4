use Rattle.std.proofs.Common.{◌∙◌, inl, inr, ap, sym, subst}
use Rattle.migration.specs.DataPumps.{KeepsAside}
use Rattle.migration.specs.DataPlaces.{place_at}
use Rattle.migration.specs.DataWords.{Roll}
use Rattle.migration.proofs.DataPasses.{met_in_all, queues_in_all}
use Rattle.worker_core.proofs.Homes.{ended_since, stays_since}
use Rattle.migration.proofs.DataPumps.{each_pumped, keeps_on}
use Rattle.migration.proofs.DataQueues.{pump_shortens, rests_at, moved_same}
use Rattle.migration.proofs.data_side.DataSide.pump_due.Goals as goal

pub returns-clause-states : goal.returns-clause-states
returns-clause-states g c = each_pumped _ _ _ _ c.take_all.ensures.takes.states c.serve_all.ensures.states
    c.drain_all.ensures.states

pub returns-clause-aside : goal.returns-clause-aside
returns-clause-aside g c = subst (KeepsAside (λ half. g.H.DataTraveller.slot_at (g.H.DataTraveller.name half))
    c.args.self.now.places.items c.drain_all.new.self.places.items c.args.self.now.aside.items)
    (sym (c.drain_all.ensures.aside ∙ c.serve_all.ensures.aside))
    (keeps_on (λ half. g.H.DataTraveller.slot_at (g.H.DataTraveller.name half)) _ _ _ _ _ _ c.take_all.ensures.takes.states
    c.serve_all.ensures.states c.drain_all.ensures.states c.take_all.ensures.takes.keeps)

pub returns-clause-full : goal.returns-clause-full
returns-clause-full g c = met_in_all _ _ _ _ _ _ c.take_all.ensures.fulls c.serve_all.ensures.full
    c.drain_all.ensures.waits c.drain_all.ensures.lasts

pub returns-clause-queues : goal.returns-clause-queues
returns-clause-queues g c = queues_in_all _ _ _ _ _ c.take_all.ensures.fulls c.serve_all.ensures.lasts
    c.drain_all.ensures.queues

pub returns-clause-home : goal.returns-clause-home
returns-clause-home g c = λ slice within.
    let homes = c.drain_all.ensures.homes ∙ c.serve_all.ensures.homes in
    let aside = c.drain_all.ensures.aside ∙ c.serve_all.ensures.aside in
    let admitted = ap (λ (r : Roll _ _). r.admitted) (c.drain_all.ensures.roll ∙ c.serve_all.ensures.roll) in
    elim (c.take_all.ensures.home slice within) [
      | inl ended ↦ inl (ended_since _ _ _ _ slice _ _ _ homes aside admitted ended)
      | inr none ↦ inr none
    ]

pub returns-clause-stays : goal.returns-clause-stays
returns-clause-stays g c = λ slice none.
    stays_since slice _ _ _ (c.drain_all.ensures.homes ∙ c.serve_all.ensures.homes) (c.take_all.ensures.stays slice none)

pub returns-clause-drains : goal.returns-clause-drains
returns-clause-drains g c = pump_shortens c.args.self.now.places.items c.take_all.new.self.places.items
    c.serve_all.new.self.places.items c.drain_all.new.self.places.items c.take_all.ensures.takes.queues
    c.serve_all.ensures.queues c.drain_all.ensures.drains

pub returns-clause-rests : goal.returns-clause-rests
returns-clause-rests g c = λ slot none.
    let old = c.args.self.now.places.items in
    let new = c.drain_all.new.self.places.items in
    let moved = ap (λ (r : Roll _ _). r.moved)
    (c.drain_all.ensures.roll ∙ c.serve_all.ensures.roll ∙ c.take_all.ensures.roll) in
    rests_at (place_at old slot) (place_at new slot) (moved_same old new moved slot)
    (each_pumped _ _ _ _ c.take_all.ensures.takes.states c.serve_all.ensures.states c.drain_all.ensures.states slot)
    (pump_shortens old c.take_all.new.self.places.items c.serve_all.new.self.places.items new
    c.take_all.ensures.takes.queues c.serve_all.ensures.queues c.drain_all.ensures.drains slot)
    none

pub returns-clause-room : goal.returns-clause-room
returns-clause-room g c = ap (λ (r : Roll _ _). r.room)
    (c.drain_all.ensures.roll ∙ c.serve_all.ensures.roll ∙ c.take_all.ensures.roll)
