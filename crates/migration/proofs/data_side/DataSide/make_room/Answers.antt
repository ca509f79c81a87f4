use Rattle.std.proofs.Common.{rules, ◌∙◌, None, length, replicate, vec_capacity, refl, ap, sym}
use Rattle.std.proofs.Common.{subst, arith, length-append}
use Rattle.migration.specs.DataDue.{Lists}
use Rattle.migration.specs.DataPlaces.{place_at}
use Rattle.migration.proofs.DataSides.{roomy_side, place_grown}
use Rattle.migration.proofs.DataCounted.{counts_grown}
use Rattle.migration.proofs.DataListings.{lists_grown}
use Rattle.migration.proofs.data_side.DataSide.make_room.Goals as goal

pub invariant_of-self : goal.invariant_of-self
invariant_of-self g c = record {
  laid = search rules;
  aside_room = search rules;
  listed = subst (Lists c.args.self.now.places.items) (sym c.widen.ensures.items) c.args.self.now.listed;
  due_room = let room = c.args.self.now.due_room in let kept = c.widen.ensures.kept in omega arith;
  counted = c.args.self.now.counted;
}

pub invariant_of-self-in-Break-branch-2 : goal.invariant_of-self-in-Break-branch-2
invariant_of-self-in-Break-branch-2 g c =
    let grown = c.grow.ensures.grown in
    let old = c.args.self.now in
    record {
      laid = roomy_side g.H.DataTraveller.name g.H.DataTraveller.slot_at g.H.DataTraveller.item_slot g.H.DataTraveller.handled _ _ _ _ _ _ _ _
          old.laid grown (let n = old.laid.short in
          let b = old.places.ok in let d = c.grow.new.places.ok in
          let a = c.grow.ensures.short 65533 (search (rules, arith)) (omega arith) in omega arith) refl;
      aside_room = search rules;
      listed = subst (Lists c.grow.new.places.items) (sym c.widen.ensures.items)
          (lists_grown old.places.items c.grow.new.places.items old.due.items
          (omega (arith, ap length grown.1, length-append old.places.items (replicate grown.0 None)))
          (λ s. ap (λ l. place_at l s) grown.1 ∙ place_grown g.H.DataTraveller.name g.H.DataTraveller.slot_at g.H.DataTraveller.item_slot
          g.H.DataTraveller.handled old.places.items grown.0 s) old.listed);
      due_room =
          let room = old.due_room in let b = old.places.ok in let d = c.grow.new.places.ok in
          let kept = c.widen.ensures.kept in let wide = c.in_ok-widen.ensures.wide in
          let a = c.grow.ensures.short (vec_capacity c.widen.new.items) (omega arith) (omega arith) in omega arith;
      counted = counts_grown old.places.items c.grow.new.places.items grown.0 old.leavers grown.1 old.counted;
    }

pub invariant_of-self-2 : goal.invariant_of-self-2
invariant_of-self-2 g c =
    let grown = c.grow.ensures.grown in
    let old = c.args.self.now in
    record {
      laid = roomy_side g.H.DataTraveller.name g.H.DataTraveller.slot_at g.H.DataTraveller.item_slot g.H.DataTraveller.handled _ _ _ _ _ _ _ _
          old.laid grown (let n = old.laid.short in
          let b = old.places.ok in let d = c.grow.new.places.ok in
          let a = c.grow.ensures.short 65533 (search (rules, arith)) (omega arith) in omega arith)
          c.widen-2.ensures.items;
      aside_room = search rules;
      listed = subst (Lists c.grow.new.places.items) (sym c.widen.ensures.items)
          (lists_grown old.places.items c.grow.new.places.items old.due.items
          (omega (arith, ap length grown.1, length-append old.places.items (replicate grown.0 None)))
          (λ s. ap (λ l. place_at l s) grown.1 ∙ place_grown g.H.DataTraveller.name g.H.DataTraveller.slot_at g.H.DataTraveller.item_slot
          g.H.DataTraveller.handled old.places.items grown.0 s) old.listed);
      due_room =
          let room = old.due_room in let b = old.places.ok in let d = c.grow.new.places.ok in
          let kept = c.widen.ensures.kept in let wide = c.in_ok-widen.ensures.wide in
          let a = c.grow.ensures.short (vec_capacity c.widen.new.items) (omega arith) (omega arith) in omega arith;
      counted = counts_grown old.places.items c.grow.new.places.items grown.0 old.leavers grown.1 old.counted;
    }
