use Rattle.std.proofs.Common.{rules, ◌∙◌, refl}
use Rattle.worker_core.proofs.Homes.{taking_none, taking_more, taking_ends, taking_all}
use Rattle.migration.proofs.DataPumps.{takes_none, takes_then}
use Rattle.migration.proofs.data_side.DataSide.take_from.Goals as goal

pub loop-init : goal.loop-init
loop-init g c = (
  refl,
  refl,
  takes_none (λ half. g.H.DataTraveller.slot_at (g.H.DataTraveller.name half)) _ _,
  taking_none c.args.slice _ _,
  λ other apart. refl,
)

pub loop-preserved : goal.loop-preserved
loop-preserved g c = (
  c.take_one.ensures.roll ∙ c.loop.invariant.0,
  c.take_one.ensures.len ∙ c.loop.invariant.1,
  takes_then (λ half. g.H.DataTraveller.slot_at (g.H.DataTraveller.name half)) _ _ _ _ _ _ c.loop.invariant.2
      c.take_one.ensures.takes,
  taking_more c.args.slice _ _ c.take_one.result _ _ _ _ _ _ c.loop.invariant.3 (search rules)
      c.take_one.ensures.took,
  λ other apart. c.take_one.ensures.leave other apart ∙ c.loop.invariant.4 other apart,
)

pub returns-then-not-take_one-clause-took : goal.returns-then-not-take_one-clause-took
returns-then-not-take_one-clause-took g c =
    taking_ends c.args.slice _ _ c.take_one.result _ _ _ _ _ _ c.loop.invariant.3 (search rules)
    c.take_one.ensures.took

pub returns-clause-took : goal.returns-clause-took
returns-clause-took g c =
    taking_all c.args.slice _ _ _ c.loop.counter _ _ c.loop.invariant.3 (search rules)

pub returns-then-not-take_one-clause-takes : goal.returns-then-not-take_one-clause-takes
returns-then-not-take_one-clause-takes g c = takes_then (λ half. g.H.DataTraveller.slot_at (g.H.DataTraveller.name half)) _ _ _ _ _ _
    c.loop.invariant.2 c.take_one.ensures.takes

pub returns-clause-takes : goal.returns-clause-takes
returns-clause-takes g c = c.loop.invariant.2

pub returns-then-not-take_one-clause-leave : goal.returns-then-not-take_one-clause-leave
returns-then-not-take_one-clause-leave g c =
    λ other apart. c.take_one.ensures.leave other apart ∙ c.loop.invariant.4 other apart

pub returns-clause-leave : goal.returns-clause-leave
returns-clause-leave g c = c.loop.invariant.4
