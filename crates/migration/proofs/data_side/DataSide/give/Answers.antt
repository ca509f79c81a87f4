use Rattle.std.proofs.Common.{rules, ◌≡◌, ◌∙◌, true, length, sym, ap, subst, arith}
use Rattle.std.proofs.lemmas.List.{length-set}
use Rattle.migration.specs.DataPlaces.{place_at, is_admitted}
use Rattle.migration.specs.DataSteps.{AtSlot, Gave}
use Rattle.migration.specs.DataSides.{IsDataSide}
use Rattle.migration.proofs.DataSides.{ready, admitted_within, fits_here}
use Rattle.migration.proofs.DataPasses.{gave_still, gave_full}
use Rattle.migration.proofs.DataCounted.{counts_same, gave_leaves}
use Rattle.migration.proofs.DataListings.{lists_quiet, gave_due}
use Rattle.migration.proofs.data_side.DataSide.give.Goals as goal

pub give_at-answer-requires-clause-within : goal.give_at-answer-requires-clause-within
give_at-answer-requires-clause-within g c = λ κs within.
    let laws = g.met.H.DataTraveller g.world.𝓛 g.world.𝓜 g.world.𝓡 ((λ s x. x), (λ x. x), (λ x. x), λ x. x) in
    let same : c.slot_of-slot.result ≡ g.H.DataTraveller.item_slot c.args.item = c.slot_of-slot.ensures
    ∙ sym (laws.item_slots c.args.item) in
    let admitted = subst (λ s. is_admitted (place_at c.args.self.now.places.items s) ≡ true) (sym same)
    c.requires.admitted in
    let within = admitted_within g.H.DataTraveller.name g.H.DataTraveller.slot_at g.H.DataTraveller.item_slot g.H.DataTraveller.handled
    c.args.self.now.places.items c.slot_of-slot.result admitted in
    within

pub give_at-answer-requires-clause-admitted : goal.give_at-answer-requires-clause-admitted
give_at-answer-requires-clause-admitted g c = λ κs within.
    let laws = g.met.H.DataTraveller g.world.𝓛 g.world.𝓜 g.world.𝓡 ((λ s x. x), (λ x. x), (λ x. x), λ x. x) in
    let same : c.slot_of-slot.result ≡ g.H.DataTraveller.item_slot c.args.item = c.slot_of-slot.ensures
    ∙ sym (laws.item_slots c.args.item) in
    let admitted = subst (λ s. is_admitted (place_at c.args.self.now.places.items s) ≡ true) (sym same)
    c.requires.admitted in
    let within = admitted_within g.H.DataTraveller.name g.H.DataTraveller.slot_at g.H.DataTraveller.item_slot g.H.DataTraveller.handled
    c.args.self.now.places.items c.slot_of-slot.result admitted in
    admitted

pub give_at-answer-requires-clause-own : goal.give_at-answer-requires-clause-own
give_at-answer-requires-clause-own g c = λ κs within.
    let laws = g.met.H.DataTraveller g.world.𝓛 g.world.𝓜 g.world.𝓡 ((λ s x. x), (λ x. x), (λ x. x), λ x. x) in
    let same : c.slot_of-slot.result ≡ g.H.DataTraveller.item_slot c.args.item = c.slot_of-slot.ensures
    ∙ sym (laws.item_slots c.args.item) in
    sym same

pub give_at-answer-requires-clause-fits : goal.give_at-answer-requires-clause-fits
give_at-answer-requires-clause-fits g c = λ κs within.
    let laws = g.met.H.DataTraveller g.world.𝓛 g.world.𝓜 g.world.𝓡 ((λ s x. x), (λ x. x), (λ x. x), λ x. x) in
    let same : c.slot_of-slot.result ≡ g.H.DataTraveller.item_slot c.args.item = c.slot_of-slot.ensures
    ∙ sym (laws.item_slots c.args.item) in
    let admitted = subst (λ s. is_admitted (place_at c.args.self.now.places.items s) ≡ true) (sym same)
    c.requires.admitted in
    let within = admitted_within g.H.DataTraveller.name g.H.DataTraveller.slot_at g.H.DataTraveller.item_slot g.H.DataTraveller.handled
    c.args.self.now.places.items c.slot_of-slot.result admitted in
    fits_here g.H.DataTraveller.name g.H.DataTraveller.slot_at g.H.DataTraveller.item_slot g.H.DataTraveller.handled c.args.self.now.places.items
    c.slot_of-slot.result c.args.self.now.aside.items c.args.self.now.desks.items _ _ _ c.args.self.now.laid
    within

pub give_at-answer-requires-clause-ready : goal.give_at-answer-requires-clause-ready
give_at-answer-requires-clause-ready g c = λ κs within.
    let laws = g.met.H.DataTraveller g.world.𝓛 g.world.𝓜 g.world.𝓡 ((λ s x. x), (λ x. x), (λ x. x), λ x. x) in
    let same : c.slot_of-slot.result ≡ g.H.DataTraveller.item_slot c.args.item = c.slot_of-slot.ensures
    ∙ sym (laws.item_slots c.args.item) in
    let admitted = subst (λ s. is_admitted (place_at c.args.self.now.places.items s) ≡ true) (sym same)
    c.requires.admitted in
    let within = admitted_within g.H.DataTraveller.name g.H.DataTraveller.slot_at g.H.DataTraveller.item_slot g.H.DataTraveller.handled
    c.args.self.now.places.items c.slot_of-slot.result admitted in
    ready g.H.DataTraveller.name g.H.DataTraveller.slot_at g.H.DataTraveller.item_slot g.H.DataTraveller.handled c.args.self.now.places.items
    c.slot_of-slot.result c.args.self.now.aside.items c.args.self.now.desks.items _ _ _ c.args.self.now.laid
    within

pub invariant_of-self : goal.invariant_of-self
invariant_of-self g c = record {
  laid = subst (λ n. IsDataSide g.H.DataTraveller.name g.H.DataTraveller.slot_at g.H.DataTraveller.item_slot g.H.DataTraveller.handled
      c.give_at-answer.new.places.items c.args.self.now.aside.items c.give_at-answer.new.desks.items
      c.args.self.now.room c.args.self.now.admitted n) (sym c.asked_now-self.ensures)
      (gave_still g.H.DataTraveller.name g.H.DataTraveller.slot_at g.H.DataTraveller.item_slot g.H.DataTraveller.handled c.args.item
      c.give_at-answer.result _ _ c.slot_of-slot.result _ _ _ _ _ _ c.args.self.now.laid c.requires.asked
      c.give_at-answer.ensures).side;
  aside_room = search rules;
  listed = let at = c.give_at-answer.ensures in lists_quiet _ _ at.0 c.slot_of-slot.result c.args.self.now.due.items
      at.1 at.2 c.args.self.now.listed
      (gave_due (λ half. g.H.DataTraveller.slot_at (g.H.DataTraveller.name half)) g.H.DataTraveller.item_slot g.H.DataTraveller.handled
      c.slot_of-slot.result c.args.self.now.room c.args.item c.give_at-answer.result _ at.0 _ _ at.3);
  due_room =
      let at = c.give_at-answer.ensures in
      let n = ap length at.2 ∙ length-set c.args.self.now.places.items c.slot_of-slot.result at.0 in
      let room = c.args.self.now.due_room in omega arith;
  counted =
      let at = c.give_at-answer.ensures in
      counts_same _ _ at.0 c.slot_of-slot.result c.args.self.now.leavers at.1 at.2
      (gave_leaves (λ half. g.H.DataTraveller.slot_at (g.H.DataTraveller.name half)) g.H.DataTraveller.item_slot g.H.DataTraveller.handled
      c.slot_of-slot.result _ c.args.self.now.room c.args.item c.give_at-answer.result _ at.0 _ _
      (fits_here g.H.DataTraveller.name g.H.DataTraveller.slot_at g.H.DataTraveller.item_slot g.H.DataTraveller.handled c.args.self.now.places.items
      c.slot_of-slot.result c.args.self.now.aside.items c.args.self.now.desks.items _ _ _ c.args.self.now.laid at.1)
      at.3) c.args.self.now.counted;
}

pub returns-clause-gives : goal.returns-clause-gives
returns-clause-gives g c =
    let laws = g.met.H.DataTraveller g.world.𝓛 g.world.𝓜 g.world.𝓡 ((λ s x. x), (λ x. x), (λ x. x), λ x. x) in
    let same : c.slot_of-slot.result ≡ g.H.DataTraveller.item_slot c.args.item = c.slot_of-slot.ensures
    ∙ sym (laws.item_slots c.args.item) in
    subst (λ s. AtSlot (Gave (λ half. g.H.DataTraveller.slot_at (g.H.DataTraveller.name half)) g.H.DataTraveller.item_slot g.H.DataTraveller.handled s
    c.args.self.now.room c.args.item c.give_at-answer.result) s
    c.args.self.now.places.items c.give_at-answer.new.places.items c.args.self.now.desks.items
    c.give_at-answer.new.desks.items) same c.give_at-answer.ensures

pub returns-clause-names : goal.returns-clause-names
returns-clause-names g c = (gave_still g.H.DataTraveller.name g.H.DataTraveller.slot_at g.H.DataTraveller.item_slot g.H.DataTraveller.handled
    c.args.item c.give_at-answer.result _ _ c.slot_of-slot.result _ _ _ _ _ _ c.args.self.now.laid c.requires.asked
    c.give_at-answer.ensures).names

pub returns-clause-lanes : goal.returns-clause-lanes
returns-clause-lanes g c = (gave_still g.H.DataTraveller.name g.H.DataTraveller.slot_at g.H.DataTraveller.item_slot g.H.DataTraveller.handled
    c.args.item c.give_at-answer.result _ _ c.slot_of-slot.result _ _ _ _ _ _ c.args.self.now.laid c.requires.asked
    c.give_at-answer.ensures).lanes

pub returns-clause-full : goal.returns-clause-full
returns-clause-full g c =
    let laws = g.met.H.DataTraveller g.world.𝓛 g.world.𝓜 g.world.𝓡 ((λ s x. x), (λ x. x), (λ x. x), λ x. x) in
    let same : c.slot_of-slot.result ≡ g.H.DataTraveller.item_slot c.args.item = c.slot_of-slot.ensures
    ∙ sym (laws.item_slots c.args.item) in
    gave_full (λ half. g.H.DataTraveller.slot_at (g.H.DataTraveller.name half)) g.H.DataTraveller.item_slot g.H.DataTraveller.handled c.args.item
    c.give_at-answer.result _ _ _ _ _ _ _ same c.requires.admitted c.give_at-answer.ensures
