use Rattle.std.proofs.Common.{rules, refl, ap, arith}
use Rattle.migration.proofs.PlaceSteps.{waiting_few}
use Rattle.migration.proofs.SideSteps.{same_places}
use Rattle.std.specs.List.{sum_by}
use Rattle.migration.proofs.Passes.{passes_same}
use Rattle.migration.proofs.Pumps.{lined_up}
use Rattle.migration.proofs.side.Side.line_up.Goals as goal

pub line_up-requires : goal.line_up-requires
line_up-requires g c =
    let few = waiting_few g.H.Traveller.name g.H.Traveller.slot_of _ _ _ _ _ _ _ c.args.self.now.laid in
    let a = c.args.self.now.waiting.ok in let b = c.args.self.now.serving.ok in let r =
    c.args.self.now.serving_room in omega arith

pub invariant_of-self : goal.invariant_of-self
invariant_of-self g c = record {
  laid = same_places g.H.Traveller.name g.H.Traveller.slot_of _ _ _ _ _ _ _ _ _ _ _ c.args.self.now.laid (λ h. refl)
      (λ w. let a = c.line_up.ensures.all w in let b = ap (sum_by w) c.line_up.ensures.empty in omega arith) refl
      (omega arith) c.args.self.now.laid.aside_few;
  aside_room = search rules;
  waiting_room = search rules;
  serving_room = search rules;
}

pub returns-clause-passed : goal.returns-clause-passed
returns-clause-passed g c = passes_same (λ half. g.H.Traveller.slot_of (g.H.Traveller.name half))
    g.H.Traveller.hop_of _ _ _ _ _ _ refl refl (λ slice. refl)

pub returns-clause-lined : goal.returns-clause-lined
returns-clause-lined g c = lined_up g.H.Traveller.name g.H.Traveller.slot_of _ _ _ _ _ c.line_up.new.to.items _ _
    c.args.self.now.laid c.line_up.ensures.all c.line_up.ensures.rising
