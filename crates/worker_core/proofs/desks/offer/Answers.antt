use Rattle.std.proofs.Common.{rules, ◌≡◌, ◌∙◌, [], get_or, refl, sym, ap, subst, arith}
use Rattle.std.proofs.lemmas.Result.{on_ok_weaker, IfErr-weaker}
use Rattle.std.proofs.lemmas.List.{get_or-map}
use Rattle.lane_core.specs.Ends.{receiver_lane, sent}
use Rattle.worker_core.proofs.desks.offer.Goals as goal

pub offer-requires-clause-follows : goal.offer-requires-clause-follows
offer-requires-clause-follows g c = λ κs within.
    let at : c.index_mut.result.now ≡ get_or c.args.desks.now.items c.args.slice c.index_mut.result.now = search
    rules in
    let there = get_or-map (λ desk. sent desk.orders) c.args.desks.now.items c.args.slice c.index_mut.result.now []
    (let a = c.args.desks.now.ok in let b = c.requires.within in omega arith) in
    subst (λ l. g.O.Carried.follows l c.args.order) (there ∙ ap (λ desk. sent desk.orders) (sym at)) c.requires.law

pub returns-clause-given : goal.returns-clause-given
returns-clause-given g c =
    let a = c.args.desks.now.ok in
    on_ok_weaker c.offer.result (λ put. record {
      before = c.index_mut.result.now;
      now = record { orders = c.offer.new.self; home = c.index_mut.result.now.home };
      desk = record {
        within = omega arith;
        there = search rules;
        changed = search rules;
        lanes = λ i. (c.offer.ensures.lane i, receiver_lane c.index_mut.result.now.home);
      };
      home = refl;
      sent = put.0;
      fulls = put.1;
    }) c.offer.ensures.ok

pub returns-clause-full : goal.returns-clause-full
returns-clause-full g c =
    let a = c.args.desks.now.ok in
    IfErr-weaker c.offer.result _ _ (λ full not. (
      not.0,
      record {
        before = c.index_mut.result.now;
        now = record { orders = c.offer.new.self; home = c.index_mut.result.now.home };
        desk = record {
          within = omega arith;
          there = search rules;
          changed = search rules;
          lanes = λ i. (c.offer.ensures.lane i, receiver_lane c.index_mut.result.now.home);
        };
        home = refl;
        sent = not.1;
        fulls = not.2;
        filled = not.3;
      },
    )) c.offer.ensures.full
