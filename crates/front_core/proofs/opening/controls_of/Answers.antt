use Rattle.std.proofs.Common.{map, subst, sym, ap, ◌∙◌, arith}
use Rattle.std.specs.Prelude.{All}
use Rattle.std.proofs.lemmas.List.Elements.{All-push}
use Rattle.worker_core.specs.Desks.{lanes_of}
use Rattle.worker_core.specs.Workers.{IsNewDesk, place_of, worker_lanes}
use Rattle.front_core.proofs.Pairs.{lanes_push, places_push}
use Rattle.front_core.proofs.opening.controls_of.Goals as goal

pub loop-i-preserved : goal.loop-i-preserved
loop-i-preserved c =
    let at = c.loop-i in
    record {
      count = omega (arith, c.push.ensures.len, c.in_ok-push.ensures.len, c.push.new.self.ok, at.desks.ok, at.invariant.count);
      lanes = ap lanes_of c.in_ok-push.ensures.items
          ∙ lanes_push worker_lanes at.desks.items c.in_ok-desk.desk at.workers.items c.in_ok-desk.worker
          at.invariant.lanes c.in_ok-desk.ensures.lanes
          ∙ ap (map worker_lanes) (sym c.in_ok-push-2.ensures.items);
      places = ap (map place_of) c.in_ok-push-2.ensures.items
          ∙ places_push place_of at.workers.items c.in_ok-desk.worker at.i at.invariant.places c.in_ok-desk.ensures.place;
      new = subst (All IsNewDesk) (sym c.in_ok-push.ensures.items)
          (All-push IsNewDesk at.desks.items c.in_ok-desk.desk at.invariant.new c.in_ok-desk.ensures.new);
    }
