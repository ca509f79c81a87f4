use Rattle.packet_steps.proofs.ResultLemmas.{on_ok}
use Rattle.replay_command.proofs.replayer.ReplayerReporter.take.Goals as goal

pub returns : goal.returns
returns g c = λ first done latest closed open_ sent so_far next.
    on_ok c.keep.result (λ kept. (so_far.0, kept))
    (c.keep.ensures first.replay done latest closed open_ sent c.args._text.now so_far.1 next)
