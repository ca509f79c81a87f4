use Rattle.std.proofs.Common.{map, subst, sym, ap, ◌∙◌}
use Rattle.std.specs.Prelude.{All}
use Rattle.std.proofs.lemmas.List.Elements.{All-push}
use Rattle.worker_core.specs.Desks.{lanes_of}
use Rattle.worker_core.specs.Workers.{IsNewDesk, Lanes}
use Rattle.worker_core.specs.DataWorkers.{place_of, worker_lanes}
use Rattle.front_core.proofs.Pairs.{lanes_push, places_push, rooms_push}
use Rattle.front_core.proofs.opening.datas_of.Goals as goal

pub loop-i-preserved : goal.loop-i-preserved
loop-i-preserved c =
    let at = c.loop-i in
    record {
      lanes = ap lanes_of c.in_ok-push.ensures.items
          ∙ lanes_push worker_lanes at.desks.items c.in_ok-desk.desk at.workers.items c.in_ok-desk.worker
          at.invariant.lanes c.in_ok-desk.ensures.lanes
          ∙ ap (map worker_lanes) (sym c.in_ok-push-2.ensures.items);
      rooms = ap (λ ds. map (λ (lanes : Lanes). lanes.0.room) (lanes_of ds)) c.in_ok-push.ensures.items
          ∙ rooms_push at.desks.items c.in_ok-desk.desk at.i c.args.lane at.invariant.rooms
          c.in_ok-desk.ensures.rooms.0;
      places = ap (map place_of) c.in_ok-push-2.ensures.items
          ∙ places_push place_of at.workers.items c.in_ok-desk.worker at.i at.invariant.places c.in_ok-desk.ensures.place;
      new = subst (All IsNewDesk) (sym c.in_ok-push.ensures.items)
          (All-push IsNewDesk at.desks.items c.in_ok-desk.desk at.invariant.new c.in_ok-desk.ensures.new);
    }
