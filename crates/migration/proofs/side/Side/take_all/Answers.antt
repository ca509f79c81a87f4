use Rattle.std.proofs.Common.{true, ◌∙◌, refl, sym, ap, arith}
use Rattle.migration.specs.Words.{Roll}
use Rattle.worker_core.proofs.Homes.{below_none, below_more}
use Rattle.migration.proofs.Passes.{passes_same, passes_then}
use Rattle.migration.proofs.Pumps.{takes_none, takes_then, still_none, still_then}
use Rattle.migration.proofs.side.Side.take_all.Goals as goal

pub loop-slice-init : goal.loop-slice-init
loop-slice-init g c = (
  refl,
  refl,
  below_none (λ _. true) _ _ _,
  passes_same (λ half. g.H.Traveller.slot_of (g.H.Traveller.name half)) g.H.Traveller.hop_of _ _ _ _ _ _ refl refl
      (λ slice. refl),
  takes_none _ _ _ _ refl refl,
  still_none _ _,
)

pub loop-slice-preserved : goal.loop-slice-preserved
loop-slice-preserved g c =
    let same = ap (λ (r : Roll _). r.admitted) c.take_from.ensures.roll in (
      c.take_from.ensures.roll ∙ c.loop-slice.invariant.0,
      c.take_from.ensures.len ∙ c.loop-slice.invariant.1,
      below_more (λ _. true) c.loop-slice.slice _ _ _ _ _ _ _ refl c.loop-slice.invariant.2 (sym same)
          c.take_from.ensures.took c.take_from.new.self.laid.aside_few,
      passes_then (λ half. g.H.Traveller.slot_of (g.H.Traveller.name half)) g.H.Traveller.hop_of _ _ _ _ _ _ _ _ _
          c.loop-slice.invariant.3 c.take_from.ensures.passed,
      takes_then _ _ _ _ _ _ c.loop-slice.invariant.4 c.take_from.ensures.takes,
      still_then _ _ _ _ _ _ c.loop-slice.invariant.5 c.take_from.ensures.still,
    )

pub returns-clause-home : goal.returns-clause-home
returns-clause-home g c =
    λ slice within. c.loop-slice.invariant.2.ended slice (let a = c.args.self.now.desks.ok in omega arith) refl

pub returns-clause-fulls : goal.returns-clause-fulls
returns-clause-fulls g c = c.loop-slice.invariant.2.fulls

pub returns-clause-passed : goal.returns-clause-passed
returns-clause-passed g c = c.loop-slice.invariant.3

pub returns-clause-takes : goal.returns-clause-takes
returns-clause-takes g c = c.loop-slice.invariant.4

pub returns-clause-still : goal.returns-clause-still
returns-clause-still g c = c.loop-slice.invariant.5
