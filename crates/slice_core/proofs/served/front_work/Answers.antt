use Rattle.std.proofs.Common.{◌+◌}
use Rattle.slice_core.proofs.Takes.{takes_pumped}
use Rattle.slice_core.proofs.served.front_work.Goals as goal

pub returns : goal.returns
returns g c =
    takes_pumped (c.args.pace.patience + 1) c.args.lines.now c.args.front c.in_ok-front.front c.linger_on.new.front
    c.in_ok-front.ensures c.linger_on.ensures
