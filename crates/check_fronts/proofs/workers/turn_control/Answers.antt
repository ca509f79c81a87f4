use Rattle.worker_core.specs.Workers.{worker_lanes}
use Rattle.check_fronts.proofs.Ends.{turned}
use Rattle.check_fronts.proofs.workers.turn_control.Goals as goal

pub returns-in_err-_did : goal.returns-in_err-_did
returns-in_err-_did g c =
    turned worker_lanes c.args.workers.now.items c.args.slice c.index_mut.result.now c.turn.new.self
    c.index_mut.ensures.value c.in_err-_did.ensures.lanes

pub returns : goal.returns
returns g c =
    turned worker_lanes c.args.workers.now.items c.args.slice c.index_mut.result.now c.turn.new.self
    c.index_mut.ensures.value c.in_ok-_did.ensures.lanes
