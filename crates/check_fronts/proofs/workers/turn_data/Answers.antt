use Rattle.worker_core.specs.DataWorkers.{place_of, worker_lanes}
use Rattle.check_fronts.proofs.Ends.{turned}
use Rattle.check_fronts.proofs.workers.turn_data.Goals as goal

pub returns-in_err-_did-clause-lanes : goal.returns-in_err-_did-clause-lanes
returns-in_err-_did-clause-lanes g c =
    turned worker_lanes c.args.workers.now.items c.args.slice c.index_mut.result.now c.turn.new.self
    c.index_mut.ensures.value c.in_err-_did.ensures.lanes

pub returns-in_err-_did-clause-places : goal.returns-in_err-_did-clause-places
returns-in_err-_did-clause-places g c =
    turned place_of c.args.workers.now.items c.args.slice c.index_mut.result.now c.turn.new.self
    c.index_mut.ensures.value c.in_err-_did.ensures.place

pub returns-clause-lanes : goal.returns-clause-lanes
returns-clause-lanes g c =
    turned worker_lanes c.args.workers.now.items c.args.slice c.index_mut.result.now c.turn.new.self
    c.index_mut.ensures.value c.in_ok-_did.ensures.lanes

pub returns-clause-places : goal.returns-clause-places
returns-clause-places g c =
    turned place_of c.args.workers.now.items c.args.slice c.index_mut.result.now c.turn.new.self
    c.index_mut.ensures.value c.in_ok-_did.ensures.place
