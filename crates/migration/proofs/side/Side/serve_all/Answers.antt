use Rattle.std.proofs.Common.{◌∙◌, inl, [], ◌∷◌, length, refl, ap, arith}
use Rattle.std.proofs.Common.{length-append}
use Rattle.migration.proofs.Servings.{serving_all, serving_more, later_more, serving_none, none_left}
use Rattle.migration.proofs.Passes.{passes_same, passes_then}
use Rattle.migration.proofs.Pumps.{served_none, served_more, served_all}
use Rattle.migration.proofs.side.Side.serve_all.Goals as goal

pub loop-init : goal.loop-init
loop-init g c = (
  refl,
  refl,
  refl,
  (omega arith),
  serving_all g.H.Traveller.name g.H.Traveller.slot_of _ _ _ _ _ _ _ c.args.self.now.laid c.requires,
  (λ slice. inl refl),
  passes_same (λ half. g.H.Traveller.slot_of (g.H.Traveller.name half)) g.H.Traveller.hop_of _ _ _ _ _ _ refl refl
      (λ slice. refl),
  served_none g.H.Traveller.name g.H.Traveller.hop_of _ _ _,
)

pub loop-preserved : goal.loop-preserved
loop-preserved g c =
    let served = c.serve_next.ensures.served in
    let fewer = ap length served.next ∙ length-append c.serve_next.new.self.serving.items (served.slot ∷ []) in
    let a = c.loop.self.serving.ok in let b = c.serve_next.new.self.serving.ok in (
      c.serve_next.ensures.roll ∙ c.loop.invariant.0,
      c.serve_next.ensures.homes ∙ c.loop.invariant.1,
      c.serve_next.ensures.aside ∙ c.loop.invariant.2,
      (let d = c.loop.invariant.3 in omega arith),
      serving_more g.H.Traveller.name g.H.Traveller.hop_of _ _ _ _ _ _ _ c.loop.invariant.5 c.loop.invariant.4 served,
      (λ slice. later_more _ _ _ slice (c.loop.invariant.5 slice) (served.later slice)),
      passes_then (λ half. g.H.Traveller.slot_of (g.H.Traveller.name half)) g.H.Traveller.hop_of _ _ _ _ _ _ _ _ _
          c.loop.invariant.6 c.serve_next.ensures.passed,
      served_more g.H.Traveller.name g.H.Traveller.hop_of _ _ _ _ _ _ _ _ _ c.loop.invariant.7 served,
    )

pub returns-clause-full : goal.returns-clause-full
returns-clause-full g c =
    let a = c.loop.self.serving.ok in
    serving_none _ _ _ _ (none_left c.loop.self.serving.items (let d = c.loop.invariant.3 in omega arith))
    c.loop.invariant.4

pub returns-clause-passed : goal.returns-clause-passed
returns-clause-passed g c = c.loop.invariant.6

pub returns-clause-each : goal.returns-clause-each
returns-clause-each g c =
    let a = c.loop.self.serving.ok in
    served_all g.H.Traveller.name g.H.Traveller.hop_of _ _ _ _ _ _ c.loop.invariant.7
    (none_left c.loop.self.serving.items (let d = c.loop.invariant.3 in omega arith))
