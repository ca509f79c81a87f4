use Rattle.std.proofs.Common.{rules, ◌∙◌, ◌<◌, true, length, refl, sym, ap, arith}
use Rattle.std.proofs.lemmas.List.{length-set}
use Rattle.migration.proofs.DataSides.{entered_side, stands_at_front}
use Rattle.migration.proofs.DataRising.{room_more}
use Rattle.migration.specs.DataPlaces.{place_at}
use Rattle.migration.proofs.DataCounted.{counts_same, fresh_leaves}
use Rattle.migration.proofs.DataListings.{lists_joined}
use Rattle.migration.proofs.data_side.DataSide.enter.Goals as goal

pub returns-clause-enters : goal.returns-clause-enters
returns-clause-enters g c = stands_at_front c.args.slot c.args.slice c.args.moved c.args.half
    c.args.self.now.places.items _ _ c.put.ensures (search rules) refl refl (search rules)
    (search rules)

pub invariant_of-self : goal.invariant_of-self
invariant_of-self g c = record {
  laid = entered_side g.H.DataTraveller.name g.H.DataTraveller.slot_at g.H.DataTraveller.item_slot g.H.DataTraveller.handled
      c.args.self.now.places.items _ c.args.slot c.args.slice c.args.moved c.args.half _ _ _ _ _ c.args.self.now.laid
      (let a = c.args.self.now.places.ok in let b = c.requires.within in omega arith) c.requires.own
      c.requires.fresh c.requires.unhandled c.requires.slice c.requires.asked
      (stands_at_front c.args.slot c.args.slice c.args.moved c.args.half c.args.self.now.places.items _ _
      c.put.ensures (search rules) refl refl (search rules) (search rules));
  aside_room = search rules;
  listed =
      let within : c.args.slot < length c.args.self.now.places.items =
      (let a = c.args.self.now.places.ok in let b = c.requires.within in omega arith) in
      lists_joined c.args.self.now.places.items c.put.new.places.items _ c.args.slot true
      c.args.self.now.due.items c.list.new.due.items within c.put.ensures c.args.self.now.listed (λ is. refl)
      (c.list.ensures.joins (length c.args.self.now.places.items) within c.args.self.now.listed.rising);
  due_room =
      let n = ap length c.put.ensures ∙ length-set c.args.self.now.places.items c.args.slot _ in
      let room = c.args.self.now.due_room in let more = c.list.ensures.room in omega arith;
  counted =
      let within : c.args.slot < length c.args.self.now.places.items =
      (let a = c.args.self.now.places.ok in let b = c.requires.within in omega arith) in
      counts_same c.args.self.now.places.items c.put.new.places.items _ c.args.slot c.args.self.now.leavers within
      c.put.ensures (sym (fresh_leaves (place_at c.args.self.now.places.items c.args.slot) c.requires.fresh))
      c.args.self.now.counted;
}

pub returns-clause-due : goal.returns-clause-due
returns-clause-due g c =
    (c.list.ensures.joins (length c.args.self.now.places.items)
    (let a = c.args.self.now.places.ok in let b = c.requires.within in omega arith)
    c.args.self.now.listed.rising).here refl

pub list-requires : goal.list-requires
list-requires g c = λ none.
    let more = room_more c.args.slot (length c.args.self.now.places.items) c.args.self.now.due.items
    c.args.self.now.listed.rising (let a = c.args.self.now.places.ok in let b = c.requires.within in omega arith)
    none in
    let room = c.args.self.now.due_room in let long = c.args.self.now.due.ok in omega arith
