use Rattle.std.proofs.Common.{rules, refl}
use Rattle.migration.proofs.SideSteps.{roomy_side}
use Rattle.migration.proofs.side.Side.make_room.Goals as goal

pub invariant_of-self : goal.invariant_of-self
invariant_of-self g c = record {
  laid = roomy_side g.H.Traveller.name g.H.Traveller.slot_of _ _ _ _ _ _ _ _ _ _ _ c.args.self.now.laid
      c.grow.ensures.grown refl refl refl;
  aside_room = search rules;
  waiting_room = search rules;
  serving_room = search rules;
}

pub invariant_of-self-in-Break-branch-2 : goal.invariant_of-self-in-Break-branch-2
invariant_of-self-in-Break-branch-2 g c = record {
  laid = roomy_side g.H.Traveller.name g.H.Traveller.slot_of _ _ _ _ _ _ _ _ _ _ _ c.args.self.now.laid
      c.grow.ensures.grown c.widen.ensures.items refl refl;
  aside_room = search rules;
  waiting_room = search rules;
  serving_room = search rules;
}

pub invariant_of-self-in-Break-branch-3 : goal.invariant_of-self-in-Break-branch-3
invariant_of-self-in-Break-branch-3 g c = record {
  laid = roomy_side g.H.Traveller.name g.H.Traveller.slot_of _ _ _ _ _ _ _ _ _ _ _ c.args.self.now.laid
      c.grow.ensures.grown c.widen.ensures.items c.widen-2.ensures.items refl;
  aside_room = search rules;
  waiting_room = search rules;
  serving_room = search rules;
}

pub invariant_of-self-2 : goal.invariant_of-self-2
invariant_of-self-2 g c = record {
  laid = roomy_side g.H.Traveller.name g.H.Traveller.slot_of _ _ _ _ _ _ _ _ _ _ _ c.args.self.now.laid
      c.grow.ensures.grown c.widen.ensures.items c.widen-2.ensures.items c.widen-3.ensures.items;
  aside_room = search rules;
  waiting_room = search rules;
  serving_room = search rules;
}
