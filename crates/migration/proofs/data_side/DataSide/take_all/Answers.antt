use Rattle.std.proofs.Common.{◌≡◌, ◌≢◌, ◌∙◌, ◌⊎◌, inl, inr, true, false, length, refl, sym, ap, arith, nat_lt}
use Rattle.migration.specs.DataWords.{Roll}
use Rattle.worker_core.specs.Homes.{HomeEnded}
use Rattle.migration.specs.DataLeavers.{is_left}
use Rattle.migration.specs.DataPumps.{NoneLeaves}
use Rattle.worker_core.proofs.Homes.{below_none}
use Rattle.migration.proofs.DataCounted.{left_more, none_left, left_alone}
use Rattle.migration.proofs.DataPumps.{takes_none, takes_then}
use Rattle.migration.proofs.data_side.DataSide.take_all.Goals as goal

pub loop-slice-init : goal.loop-slice-init
loop-slice-init g c = (
  refl,
  refl,
  takes_none (λ half. g.H.DataTraveller.slot_at (g.H.DataTraveller.name half)) _ _,
  below_none (is_left c.args.self.now.places.items) _ _ _,
  λ other above. refl,
)

pub loop-slice-preserved : goal.loop-slice-preserved
loop-slice-preserved g c =
    let same = ap (λ (r : Roll _ _). r.admitted) c.take_left.ensures.roll in
    let slice = c.loop-slice.slice in
    let left = c.has-left.ensures
    ∙ ap (nat_lt 0) (c.loop-slice.self.counted.each slice ∙ c.loop-slice.invariant.4 slice (omega arith)) in (
      c.take_left.ensures.roll ∙ c.loop-slice.invariant.0,
      c.take_left.ensures.len ∙ c.loop-slice.invariant.1,
      takes_then (λ half. g.H.DataTraveller.slot_at (g.H.DataTraveller.name half)) _ _ _ _ _ _ c.loop-slice.invariant.2
          c.take_left.ensures.takes,
      left_more (is_left c.args.self.now.places.items) slice _ _ c.has-left.result _ _ _ _ _
          c.loop-slice.invariant.3 (sym same) left
          c.take_left.ensures.took c.take_left.ensures.none c.take_left.new.self.laid.aside_few,
      λ other above.
          let apart : other ≢ slice = omega arith in
          c.take_left.ensures.leave other apart ∙ c.loop-slice.invariant.4 other (omega arith),
    )

pub returns-clause-home : goal.returns-clause-home
returns-clause-home g c = λ slice within.
    let old = c.args.self.now in
    elim (is_left old.places.items slice) as (λ b. is_left old.places.items slice ≡ b
    → HomeEnded (length c.loop-slice.self.aside.items) c.loop-slice.self.admitted slice old.desks.items
    c.loop-slice.self.desks.items ⊎ NoneLeaves slice old.places.items) [
      | true ↦ λ e. inl (c.loop-slice.invariant.3.ended slice (let a = old.desks.ok in omega arith) e)
      | false ↦ λ e. inr (none_left old.places.items slice e)
    ] refl

pub returns-clause-stays : goal.returns-clause-stays
returns-clause-stays g c = λ slice none.
    c.loop-slice.invariant.3.others slice (inr (left_alone c.args.self.now.places.items slice none))

pub returns-clause-fulls : goal.returns-clause-fulls
returns-clause-fulls g c = c.loop-slice.invariant.3.fulls

pub returns-clause-takes : goal.returns-clause-takes
returns-clause-takes g c = c.loop-slice.invariant.2
