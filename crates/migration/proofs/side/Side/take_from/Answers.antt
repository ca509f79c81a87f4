use Rattle.std.proofs.Common.{rules, ◌∙◌, refl}
use Rattle.worker_core.proofs.Homes.{taking_none, taking_more, taking_ends, taking_all}
use Rattle.migration.proofs.Passes.{passes_same, passes_then}
use Rattle.migration.proofs.Pumps.{takes_none, takes_then, still_none, still_then}
use Rattle.migration.proofs.side.Side.take_from.Goals as goal

pub loop-init : goal.loop-init
loop-init g c = (
  refl,
  refl,
  taking_none c.args.slice _ _,
  passes_same (λ half. g.H.Traveller.slot_of (g.H.Traveller.name half)) g.H.Traveller.hop_of _ _ _ _ _ _ refl refl
      (λ slice. refl),
  takes_none _ _ _ _ refl refl,
  still_none _ _,
)

pub loop-preserved : goal.loop-preserved
loop-preserved g c = (
  c.take_one.ensures.roll ∙ c.loop.invariant.0,
  c.take_one.ensures.len ∙ c.loop.invariant.1,
  taking_more c.args.slice _ _ c.take_one.result _ _ _ _ _ _ c.loop.invariant.2 (search rules) c.take_one.ensures.took,
  passes_then (λ half. g.H.Traveller.slot_of (g.H.Traveller.name half)) g.H.Traveller.hop_of _ _ _ _ _ _ _ _ _
      c.loop.invariant.3 c.take_one.ensures.passed,
  takes_then _ _ _ _ _ _ c.loop.invariant.4 c.take_one.ensures.takes,
  still_then _ _ _ _ _ _ c.loop.invariant.5 c.take_one.ensures.still,
)

pub returns-then-not-take_one-clause-took : goal.returns-then-not-take_one-clause-took
returns-then-not-take_one-clause-took g c =
    taking_ends c.args.slice _ _ c.take_one.result _ _ _ _ _ _ c.loop.invariant.2 (search rules) c.take_one.ensures.took

pub returns-clause-took : goal.returns-clause-took
returns-clause-took g c =
    taking_all c.args.slice _ _ _ c.loop.counter _ _ c.loop.invariant.2 (search rules)

pub returns-then-not-take_one-clause-passed : goal.returns-then-not-take_one-clause-passed
returns-then-not-take_one-clause-passed g c =
    passes_then (λ half. g.H.Traveller.slot_of (g.H.Traveller.name half)) g.H.Traveller.hop_of _ _ _ _ _ _ _ _ _
    c.loop.invariant.3 c.take_one.ensures.passed

pub returns-clause-passed : goal.returns-clause-passed
returns-clause-passed g c = c.loop.invariant.3

pub returns-then-not-take_one-clause-takes : goal.returns-then-not-take_one-clause-takes
returns-then-not-take_one-clause-takes g c =
    takes_then _ _ _ _ _ _ c.loop.invariant.4 c.take_one.ensures.takes

pub returns-clause-takes : goal.returns-clause-takes
returns-clause-takes g c = c.loop.invariant.4

pub returns-then-not-take_one-clause-still : goal.returns-then-not-take_one-clause-still
returns-then-not-take_one-clause-still g c =
    still_then _ _ _ _ _ _ c.loop.invariant.5 c.take_one.ensures.still

pub returns-clause-still : goal.returns-clause-still
returns-clause-still g c = c.loop.invariant.5
