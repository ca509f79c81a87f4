use Rattle.std.proofs.Common.{rules, inl, inr, ℕ, refl, subst}
use Rattle.std.proofs.lemmas.Result.{IfOk-weaker}
use Rattle.std.specs.Prelude.{◌≡◌, None}
use Rattle.worker_core.specs.declared.data_serving.OrderTaken.TheVariants.{Nothing, Arrived, Left, Kept}
use Rattle.worker_core.specs.DataWorkers.{view_of, Takes}
use Rattle.worker_core.specs.DataDoing.{HandsKept}
use Rattle.worker_core.specs.DataSteps.{TookOrder}
use Rattle.worker_core.proofs.DataCauses.{ordered_kept, ordered_taken}
use Rattle.worker_core.proofs.data_worker.DataWorker.do_order.Goals as goal

pub returns-then-is_some-clause-done : goal.returns-then-is_some-clause-done
returns-then-is_some-clause-done g c =
    IfOk-weaker c.do_kept.result _ _ (λ step did.
    ordered_kept g.H.DataTraveller.name g.H.DataTraveller.slot_at g.H.DataTraveller.item_slot g.H.DataTraveller.handled g.H.DataTraveller.takes g.H.DataTraveller.asks
    g.H.DataTraveller.learns did.0 step
    (view_of c.args.self.now) (view_of c.do_kept.new.self) did.1 did.2) c.do_kept.ensures.done

pub returns-in-Kept-clause-done : goal.returns-in-Kept-clause-done
returns-in-Kept-clause-done g c =
    let free : c.args.self.now.kept ≡ None = search rules in
    let took : TookOrder Kept (view_of c.args.self.now) (view_of c.take_order.new.self) = search rules in
    IfOk-weaker c.do_kept-in-Kept.result _ _ (λ step did.
    ordered_taken g.H.DataTraveller.name g.H.DataTraveller.slot_at g.H.DataTraveller.item_slot g.H.DataTraveller.handled g.H.DataTraveller.takes g.H.DataTraveller.asks
    g.H.DataTraveller.learns did.0 step
    (view_of c.args.self.now) (view_of c.take_order.new.self)
    (view_of c.do_kept-in-Kept.new.self) free took did.1 did.2) c.do_kept-in-Kept.ensures.done

pub returns-then-is_some-clause-whole : goal.returns-then-is_some-clause-whole
returns-then-is_some-clause-whole g c =
    IfOk-weaker c.do_kept.result _ _ (λ step did.
    inr (inr (inr (view_of c.args.self.now, did.0, inl refl, did.1, did.3)))) c.do_kept.ensures.done

pub returns-in-Kept-clause-whole : goal.returns-in-Kept-clause-whole
returns-in-Kept-clause-whole g c =
    let free : c.args.self.now.kept ≡ None = search rules in
    let took : Takes Kept c.args.self.now c.take_order.new.self = search rules in
    IfOk-weaker c.do_kept-in-Kept.result _ _ (λ step did.
    inr (inr (inr (
      view_of c.take_order.new.self,
      did.0,
      inr (free, took),
      did.1,
      subst (λ (p : ℕ). HandsKept g.H.DataTraveller p did.0 (view_of c.take_order.new.self)
          (view_of c.do_kept-in-Kept.new.self)) c.take_order.ensures.place did.3,
    )))) c.do_kept-in-Kept.ensures.done

pub returns-in-Nothing-clause-whole : goal.returns-in-Nothing-clause-whole
returns-in-Nothing-clause-whole g c =
    let free : c.args.self.now.kept ≡ None = search rules in
    let took : Takes Nothing c.args.self.now c.take_order.new.self = search rules in
    inl (refl, free, took)

pub returns-in-Arrived-clause-whole : goal.returns-in-Arrived-clause-whole
returns-in-Arrived-clause-whole g c =
    let free : c.args.self.now.kept ≡ None = search rules in
    let took : Takes Arrived c.args.self.now c.take_order.new.self = search rules in
    inr (inl (refl, free, took))

pub returns-in-Left-clause-whole : goal.returns-in-Left-clause-whole
returns-in-Left-clause-whole g c =
    let free : c.args.self.now.kept ≡ None = search rules in
    let took : Takes Left c.args.self.now c.take_order.new.self = search rules in
    inr (inr (inl (refl, free, took)))
