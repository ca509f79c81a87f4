use Rattle.slice_core.proofs.Takes.{pumps_again}
use Rattle.slice_core.proofs.lines.linger_on.Goals as goal

pub returns : goal.returns
returns g c =
    pumps_again c.args.front.now c.linger_for-left.new.front c.linger_for-left-2.new.front c.linger_for-left.ensures
    c.linger_for-left-2.ensures
