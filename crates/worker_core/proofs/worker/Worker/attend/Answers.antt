use Rattle.std.proofs.Common.{rules, List, inr, subst, sym, ap, ◌∙◌}
use Rattle.std.specs.List.{All}
use Rattle.lane_core.specs.Ends.{sent, taken, full_answers, empty_answers}
use Rattle.worker_core.specs.Names.{Kept}
use Rattle.worker_core.specs.Leaves.{IsTold}
use Rattle.worker_core.specs.Seeing.{AllSeen}
use Rattle.worker_core.specs.Steps.{View, Attends, NoneWent, WentHome, without_order}
use Rattle.worker_core.specs.Workers.{view_of}
use Rattle.worker_core.proofs.Views.{home_gone, none_gone, view_same}
use Rattle.worker_core.proofs.worker.Worker.attend.Goals as goal

pub invariant_of-self-2 : goal.invariant_of-self-2
invariant_of-self-2 g c = record {
  kept = subst (λ (l : List g.row.H.Denot). Kept g.H.Traveller.name (taken c.args.self.now.orders) l
      (sent c.args.self.now.home)) (sym c.reserve.ensures.items) c.args.self.now.kept;
  told = subst (All (IsTold (taken c.args.self.now.orders))) (sym c.reserve-2.ensures.items) c.args.self.now.told;
  within = search rules;
  all_seen = λ known. subst (λ (l : List g.row.H.Denot). AllSeen
      (λ half. g.H.Traveller.slot_of (g.H.Traveller.name half)) l c.args.self.now.seen) (sym c.reserve.ensures.items)
      (c.args.self.now.all_seen known);
}

pub returns-in-Some-clause-attended : goal.returns-in-Some-clause-attended
returns-in-Some-clause-attended g c =
    let same = view_same (taken c.args.self.now.orders) (sent c.args.self.now.home) c.args.self.now.cursor
    (full_answers c.args.self.now.home) (empty_answers c.args.self.now.orders) _ _ _ _
    c.reserve.ensures.items c.reserve-2.ensures.items in
    subst (λ (v : View g.row.H.Denot). Attends (λ half. g.H.Traveller.slot_of (g.H.Traveller.name half))
    g.H.Traveller.done_of c.in-Some.took v (view_of c.take_order.new.self)) same c.in-Some.ensures.took

pub returns-then-not-send_home-clause-attended : goal.returns-then-not-send_home-clause-attended
returns-then-not-send_home-clause-attended g c =
    let same = view_same (taken c.args.self.now.orders) (sent c.args.self.now.home) c.args.self.now.cursor
    (full_answers c.args.self.now.home) (empty_answers c.args.self.now.orders) _ _ _ _
    c.reserve.ensures.items c.reserve-2.ensures.items in
    subst (λ (v : View g.row.H.Denot). NoneWent (λ half. g.H.Traveller.slot_of (g.H.Traveller.name half))
    g.H.Traveller.done_of v (view_of c.send_home.new.self))
    (c.in_default.ensures.took ∙ ap without_order same)
    (none_gone (λ half. g.H.Traveller.slot_of (g.H.Traveller.name half)) g.H.Traveller.done_of c.send_home.result
    (view_of c.take_order.new.self) (view_of c.send_home.new.self) c.if-not-send_home.true c.send_home.ensures.went)

pub returns-clause-attended : goal.returns-clause-attended
returns-clause-attended g c =
    let same = view_same (taken c.args.self.now.orders) (sent c.args.self.now.home) c.args.self.now.cursor
    (full_answers c.args.self.now.home) (empty_answers c.args.self.now.orders) _ _ _ _
    c.reserve.ensures.items c.reserve-2.ensures.items in
    inr (subst (λ (v : View g.row.H.Denot). WentHome (λ half. g.H.Traveller.slot_of (g.H.Traveller.name half))
    g.H.Traveller.done_of v (view_of c.send_home.new.self))
    (c.in_default.ensures.took ∙ ap without_order same)
    (home_gone (λ half. g.H.Traveller.slot_of (g.H.Traveller.name half)) g.H.Traveller.done_of c.send_home.result
    (view_of c.take_order.new.self) (view_of c.send_home.new.self) c.if-not-send_home.false c.send_home.ensures.went))
