use Rattle.std.proofs.Common.{◌-◌, ◌≡◌, ◌<◌, None, Some, get_or, length, sym, ap, ◌∙◌, subst, arith}
use Rattle.std.specs.Option.{option_map}
use Rattle.balance_plan.specs.Shares.{MayGo}
use Rattle.balance_plan.specs.Steps.{goes, greatest, least}
use Rattle.balance_plan.specs.declared.load.Load.{Load}
use Rattle.balance_plan.proofs.Moving.{length-changed}
use Rattle.balance_plan.proofs.Stepping.{gap_of, loads_moved, shares_after, step_is, to_slice}
use Rattle.balance_plan.proofs.shares.Shares.step.Goals as goal

pub returns-in-None-clause-step : goal.returns-in-None-clause-step
returns-in-None-clause-step c =
    let s = c.args.self.now in
    let from_in : c.greatest-from.result < length s.totals.items = omega (
      arith,
      c.greatest-from.ensures.within,
      ap length c.deref.ensures.value,
    ) in
    let to_in : c.least-to.result < length s.totals.items = omega (
      arith,
      c.least-to.ensures.within,
      ap length c.deref-2.ensures.value,
    ) in
    let gap = gap_of s c.greatest-from.result c.least-to.result c.index.result.now c.index-2.result.now
    c.requires.shares from_in to_in c.index.ensures c.index-2.ensures in
    sym (step_is (length s.totals.items) s.loads.items s.totals.items c.greatest-from.result c.least-to.result
    (c.index.result.now - c.index-2.result.now) c.requires.shares.totals
    (subst (λ ns. c.greatest-from.result ≡ greatest ns) c.deref.ensures.value c.greatest-from.ensures.place)
    (subst (λ ns. c.least-to.result ≡ least ns) c.deref-2.ensures.value c.least-to.ensures.place) gap
    ∙ ap (option_map (to_slice c.least-to.result))
    (subst (λ ls. goes c.greatest-from.result (c.index.result.now - c.index-2.result.now) ls ≡ None)
    c.deref-3.ensures.value c.in-None.ensures.goes))

pub returns-in-Some-clause-step : goal.returns-in-Some-clause-step
returns-in-Some-clause-step c =
    let s = c.args.self.now in
    let from_in : c.greatest-from.result < length s.totals.items = omega (
      arith,
      c.greatest-from.ensures.within,
      ap length c.deref.ensures.value,
    ) in
    let to_in : c.least-to.result < length s.totals.items = omega (
      arith,
      c.least-to.ensures.within,
      ap length c.deref-2.ensures.value,
    ) in
    let gap = gap_of s c.greatest-from.result c.least-to.result c.index.result.now c.index-2.result.now
    c.requires.shares from_in to_in c.index.ensures c.index-2.ensures in
    let none : Load = record { slot = 0; slice = 0; packets = 0 } in
    ap Some (c.go.ensures.planned none)
    ∙ sym (step_is (length s.totals.items) s.loads.items s.totals.items c.greatest-from.result c.least-to.result
    (c.index.result.now - c.index-2.result.now) c.requires.shares.totals
    (subst (λ ns. c.greatest-from.result ≡ greatest ns) c.deref.ensures.value c.greatest-from.ensures.place)
    (subst (λ ns. c.least-to.result ≡ least ns) c.deref-2.ensures.value c.least-to.ensures.place) gap
    ∙ ap (option_map (to_slice c.least-to.result))
    (subst (λ ls. goes c.greatest-from.result (c.index.result.now - c.index-2.result.now) ls
    ≡ Some (get_or ls c.in-Some.at none)) c.deref-3.ensures.value (c.in-Some.ensures.goes none)))

pub returns-in-Some-clause-moved : goal.returns-in-Some-clause-moved
returns-in-Some-clause-moved c =
    let s = c.args.self.now in
    let from_in : c.greatest-from.result < length s.totals.items = omega (
      arith,
      c.greatest-from.ensures.within,
      ap length c.deref.ensures.value,
    ) in
    let to_in : c.least-to.result < length s.totals.items = omega (
      arith,
      c.least-to.ensures.within,
      ap length c.deref-2.ensures.value,
    ) in
    let gap = gap_of s c.greatest-from.result c.least-to.result c.index.result.now c.index-2.result.now
    c.requires.shares from_in to_in c.index.ensures c.index-2.ensures in
    let none : Load = record { slot = 0; slice = 0; packets = 0 } in
    loads_moved s (length s.totals.items) c.in-Some.at c.greatest-from.result c.least-to.result
    (c.index.result.now - c.index-2.result.now) none c.requires.shares
    (omega (arith, c.in-Some.ensures.within, ap length c.deref-3.ensures.value)) from_in to_in
    (subst (λ ls. MayGo c.greatest-from.result (c.index.result.now - c.index-2.result.now)
    (get_or ls c.in-Some.at none)) c.deref-3.ensures.value (c.in-Some.ensures.may none)) gap
    c.go.new.self.loads.items c.go.result (c.go.ensures.loads none) (c.go.ensures.planned none)

pub returns-in-Some-clause-shares : goal.returns-in-Some-clause-shares
returns-in-Some-clause-shares c =
    let s = c.args.self.now in
    let from_in : c.greatest-from.result < length s.totals.items = omega (
      arith,
      c.greatest-from.ensures.within,
      ap length c.deref.ensures.value,
    ) in
    let to_in : c.least-to.result < length s.totals.items = omega (
      arith,
      c.least-to.ensures.within,
      ap length c.deref-2.ensures.value,
    ) in
    let gap = gap_of s c.greatest-from.result c.least-to.result c.index.result.now c.index-2.result.now
    c.requires.shares from_in to_in c.index.ensures c.index-2.ensures in
    let none : Load = record { slot = 0; slice = 0; packets = 0 } in
    shares_after s (length s.totals.items) c.in-Some.at c.greatest-from.result c.least-to.result
    (c.index.result.now - c.index-2.result.now) none c.requires.shares
    (omega (arith, c.in-Some.ensures.within, ap length c.deref-3.ensures.value)) from_in to_in
    (subst (λ ls. MayGo c.greatest-from.result (c.index.result.now - c.index-2.result.now)
    (get_or ls c.in-Some.at none)) c.deref-3.ensures.value (c.in-Some.ensures.may none)) gap
    c.go.new.self (c.go.ensures.loads none) (c.go.ensures.totals none)

pub returns-in-Some-clause-as_many : goal.returns-in-Some-clause-as_many
returns-in-Some-clause-as_many c =
    ap length (c.go.ensures.totals (record { slot = 0; slice = 0; packets = 0 }))
    ∙ length-changed c.args.self.now.totals.items c.greatest-from.result c.least-to.result
    (get_or c.args.self.now.loads.items c.in-Some.at (record { slot = 0; slice = 0; packets = 0 })).packets
