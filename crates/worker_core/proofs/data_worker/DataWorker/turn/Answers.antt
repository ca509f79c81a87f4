use Rattle.std.proofs.Common.{rules, ◌≡◌, ◌∙◌, inl, inr, sym, ap, subst}
use Rattle.std.specs.Prelude.{Ok, Result, IfOk}
use Rattle.std.specs.declared.alloc.AllocError.{AllocError}
use Rattle.lane_core.specs.declared.did.Did.TheVariants.{Idle, Held, Worked}
use Rattle.worker_core.specs.declared.data_serving.Served.TheVariants as served
use Rattle.worker_core.specs.declared.data_serving.Served.{Served}
use Rattle.worker_core.specs.DataWorkers.{view_of, place_of, DoesAll}
use Rattle.worker_core.specs.declared.data_serving.Sent.{Sent}
use Rattle.worker_core.specs.DataDoing.{SendsAs}
use Rattle.worker_core.proofs.DataChains.{turns_on, turns_left, turns_refused}
use Rattle.worker_core.specs.DataTurns.{View, Rested, HasIdled}
use Rattle.worker_core.proofs.DataCauses.{served_then, then_served, along_next, next_gone, next_learnt, idle_rested}
use Rattle.worker_core.proofs.DataCauses.{idle_why, worked_after, worked_home, did_is, stopped_left, sent_absent}
use Rattle.worker_core.proofs.data_worker.DataWorker.turn.Goals as goal

pub returns : goal.returns
returns g c =
    let first = view_of c.args.self.now in
    let mid = view_of c.send_waiting-sent.new.self in
    let after = view_of c.do_orders.new.self in
    let last = view_of c.learn_next.new.self in
    let sent = c.send_waiting-sent.result in
    let was = c.send_waiting-sent.ensures.sent in
    let next = c.in_ok-learnt.ensures.learnt in
    let along = c.in_ok-worked.ensures.along in
    let later = along_next g.H.DataTraveller.name g.H.DataTraveller.slot_at g.H.DataTraveller.item_slot g.H.DataTraveller.handled g.H.DataTraveller.takes
    g.H.DataTraveller.asks g.H.DataTraveller.learns c.in_ok-learnt.learnt after last next in
    let gone = next_gone g.H.DataTraveller.name g.H.DataTraveller.slot_at g.H.DataTraveller.item_slot g.H.DataTraveller.handled g.H.DataTraveller.takes g.H.DataTraveller.asks
    g.H.DataTraveller.learns c.in_ok-learnt.learnt after last next
    ∙ c.in_ok-worked.ensures.gone in
    let waiting = c.in_ok-worked.ensures.waiting (λ q. stopped_left c.in-Stopped.worked (sym c.in-Stopped.is ∙ q)) in
    record {
      lanes = c.learn_next.ensures.lanes ∙ c.do_orders.ensures.lanes ∙ c.send_waiting-sent.ensures.lanes;
      place = c.learn_next.ensures.place ∙ c.do_orders.ensures.place ∙ c.send_waiting-sent.ensures.place;
      worked = λ e. elim (c.answer.ensures.worked (did_is c.answer.result Worked e)) [
        | inl home ↦ worked_home g.H.DataTraveller.name g.H.DataTraveller.slot_at g.H.DataTraveller.item_slot g.H.DataTraveller.handled g.H.DataTraveller.takes
            g.H.DataTraveller.asks g.H.DataTraveller.learns sent first mid last home was gone
        | inr more ↦ elim more [
          | inl worked ↦ worked_after g.H.DataTraveller.name g.H.DataTraveller.slot_at g.H.DataTraveller.item_slot g.H.DataTraveller.handled g.H.DataTraveller.takes
              g.H.DataTraveller.asks g.H.DataTraveller.learns sent first mid last
              c.in_default.not-Refused was gone
              (served_then g.H.DataTraveller.learns mid after last along
              (c.do_orders.ensures.worked (c.in_ok-worked.was ∙ ap Ok (c.in-Stopped.is ∙ ap served.Stopped worked)))
              later)
          | inr learnt ↦ worked_after g.H.DataTraveller.name g.H.DataTraveller.slot_at g.H.DataTraveller.item_slot g.H.DataTraveller.handled g.H.DataTraveller.takes
              g.H.DataTraveller.asks g.H.DataTraveller.learns sent first mid last
              c.in_default.not-Refused was gone
              (then_served g.H.DataTraveller.learns mid after last along
              (inr (inr
              (next_learnt g.H.DataTraveller.name g.H.DataTraveller.slot_at g.H.DataTraveller.item_slot g.H.DataTraveller.handled g.H.DataTraveller.takes
              g.H.DataTraveller.asks g.H.DataTraveller.learns c.in_ok-learnt.learnt after last learnt next)))
              later)
        ]
      ];
      idle = λ e.
          let none = c.answer.ensures.idle (did_is c.answer.result Idle e) in
          let same = sent_absent sent first mid none.0 c.in_default.not-Refused was in
          let idle = c.do_orders.ensures.idle
          (c.in_ok-worked.was ∙ ap Ok (c.in-Stopped.is ∙ ap served.Stopped none.1)) in
          subst (λ (v : View g.row.H.Denot g.row.H-Item.Denot). Rested g.H.DataTraveller.name g.H.DataTraveller.handled g.H.DataTraveller.learns v
          last) same
          (idle_rested g.H.DataTraveller.name g.H.DataTraveller.slot_at g.H.DataTraveller.item_slot g.H.DataTraveller.handled g.H.DataTraveller.takes g.H.DataTraveller.asks
          g.H.DataTraveller.learns c.in_ok-learnt.learnt mid after last none.2
          c.in_ok-worked.ensures.gone waiting idle next);
      idle_why = λ e.
          let none = c.answer.ensures.idle (did_is c.answer.result Idle e) in
          let same = sent_absent sent first mid none.0 c.in_default.not-Refused was in
          let idle = c.do_orders.ensures.idle
          (c.in_ok-worked.was ∙ ap Ok (c.in-Stopped.is ∙ ap served.Stopped none.1)) in
          subst (λ (v : View g.row.H.Denot g.row.H-Item.Denot). HasIdled g.H.DataTraveller.asks
          (λ half. g.H.DataTraveller.slot_at (g.H.DataTraveller.name half)) g.H.DataTraveller.item_slot g.H.DataTraveller.takes v last) same
          (idle_why g.H.DataTraveller.name g.H.DataTraveller.slot_at g.H.DataTraveller.item_slot g.H.DataTraveller.handled g.H.DataTraveller.takes g.H.DataTraveller.asks
          g.H.DataTraveller.learns c.in_ok-learnt.learnt mid after last none.2
          c.in_ok-worked.ensures.gone waiting idle next);
      held_never = λ e. c.answer.ensures.held_never (did_is c.answer.result Held e);
      whole = turns_on g.H.DataTraveller (place_of c.args.self.now) (place_of c.send_waiting-sent.new.self)
          c.send_waiting-sent.ensures.place first mid (place_of c.do_orders.new.self) sent c.in-Stopped.worked
          c.in_ok-learnt.learnt c.answer.result after last
          (c.do_orders.ensures.place ∙ c.send_waiting-sent.ensures.place) c.in_default.not-Refused
          c.send_waiting-sent.ensures.whole
          (subst (λ (s : Served). DoesAll s c.send_waiting-sent.new.self c.do_orders.new.self) c.in-Stopped.is
          c.in_ok-worked.ensures.whole)
          c.in_ok-learnt.ensures.whole c.answer.ensures.is;
    }

pub returns-in-Refused-clause-whole : goal.returns-in-Refused-clause-whole
returns-in-Refused-clause-whole g c =
    let first = view_of c.args.self.now in
    let mid = view_of c.send_waiting-sent.new.self in
    turns_refused g.H.DataTraveller (place_of c.args.self.now) (place_of c.send_waiting-sent.new.self)
    c.send_waiting-sent.ensures.place first mid
    (subst (λ (s : Sent). SendsAs s first mid) c.in-Refused.is c.send_waiting-sent.ensures.whole)

pub returns-in_default-2 : goal.returns-in_default-2
returns-in_default-2 g c =
    let first = view_of c.args.self.now in
    let mid = view_of c.send_waiting-sent.new.self in
    let last = view_of c.do_orders.new.self in
    let left : c.do_orders.result ≡ Ok served.Left = search rules in
    record {
      lanes = c.do_orders.ensures.lanes ∙ c.send_waiting-sent.ensures.lanes;
      place = c.do_orders.ensures.place ∙ c.send_waiting-sent.ensures.place;
      worked = λ e. worked_after g.H.DataTraveller.name g.H.DataTraveller.slot_at g.H.DataTraveller.item_slot g.H.DataTraveller.handled g.H.DataTraveller.takes
          g.H.DataTraveller.asks g.H.DataTraveller.learns c.send_waiting-sent.result first mid last c.in_default.not-Refused
          c.send_waiting-sent.ensures.sent c.in_ok-worked.ensures.gone (inl (c.do_orders.ensures.left left));
      idle = λ e. absurd (let no : ⊥ = cc in no);
      idle_why = λ e. absurd (let no : ⊥ = cc in no);
      held_never = λ e. (let no : ⊥ = cc in no);
      whole = turns_left g.H.DataTraveller (place_of c.args.self.now) (place_of c.send_waiting-sent.new.self)
          c.send_waiting-sent.ensures.place first mid c.send_waiting-sent.result last c.in_default.not-Refused
          c.send_waiting-sent.ensures.whole
          (subst (λ (r : Result Served AllocError). IfOk r (λ s. DoesAll s c.send_waiting-sent.new.self
          c.do_orders.new.self)) left c.do_orders.ensures.whole);
    }
