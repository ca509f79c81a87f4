use Rattle.std.proofs.Common.{rules, ◌≡◌, ◌∙◌, sym, subst, ap, List, arith}
use Rattle.worker_core.specs.DataDesks.{DataDesk}
use Rattle.migration.specs.DataPlaces.{place_at, is_admitted}
use Rattle.migration.specs.DataWords.{Admits}
use Rattle.migration.proofs.DataSides.{place_grown}
use Rattle.migration.proofs.DataPasses.{admits_all}
use Rattle.migration.proofs.data_side.DataSide.admit.Goals as goal

pub enter-requires-clause-own : goal.enter-requires-clause-own
enter-requires-clause-own g c = λ κs within.
    let laws = g.met.H.DataTraveller g.world.𝓛 g.world.𝓜 g.world.𝓡 ((λ s x. x), (λ x. x), (λ x. x), λ x. x) in
    laws.half_slots c.args.half ∙ sym c.slot-slot.ensures

pub enter-requires-clause-fresh : goal.enter-requires-clause-fresh
enter-requires-clause-fresh g c = λ κs within.
    let laws = g.met.H.DataTraveller g.world.𝓛 g.world.𝓜 g.world.𝓡 ((λ s x. x), (λ x. x), (λ x. x), λ x. x) in
    let same : c.slot-slot.result ≡ g.H.DataTraveller.slot_at (g.H.DataTraveller.name c.args.half) = c.slot-slot.ensures
    ∙ sym (laws.half_slots c.args.half) in
    let grown = c.make_room.ensures.grown in
    ap (λ l. is_admitted (place_at l c.slot-slot.result)) grown.1
    ∙ ap is_admitted (place_grown g.H.DataTraveller.name g.H.DataTraveller.slot_at g.H.DataTraveller.item_slot g.H.DataTraveller.handled
    c.args.self.now.places.items grown.0 c.slot-slot.result)
    ∙ ap (λ s. is_admitted (place_at c.args.self.now.places.items s)) same ∙ c.requires.fresh

pub returns-clause-ok : goal.returns-clause-ok
returns-clause-ok g c =
    let laws = g.met.H.DataTraveller g.world.𝓛 g.world.𝓜 g.world.𝓡 ((λ s x. x), (λ x. x), (λ x. x), λ x. x) in
    let same : c.slot-slot.result ≡ g.H.DataTraveller.slot_at (g.H.DataTraveller.name c.args.half) = c.slot-slot.ensures
    ∙ sym (laws.half_slots c.args.half) in
    search (
      rules,
      subst (λ s. Admits s c.args.slice c.args.moved c.args.half c.args.self.now.places.items
          c.serve.new.self.places.items c.args.self.now.desks.items
          c.serve.new.self.desks.items) same
          (subst (λ (d : List (DataDesk _ _)). Admits c.slot-slot.result c.args.slice c.args.moved c.args.half
          c.args.self.now.places.items c.serve.new.self.places.items d
          c.serve.new.self.desks.items) (c.enter.ensures.desks
          ∙ c.make_room.ensures.desks) (admits_all (λ half. g.H.DataTraveller.slot_at (g.H.DataTraveller.name half))
          g.H.DataTraveller.item_slot g.H.DataTraveller.handled c.slot-slot.result c.args.slice c.args.moved
          c.args.half _ _ _ _ _ _ c.make_room.ensures.grown
          (search (rules, arith)) c.enter.ensures.enters c.serve.ensures.served)),
    )
