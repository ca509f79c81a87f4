use Rattle.std.proofs.Common.{[], ◌∷◌, ◌++◌}
use Rattle.packet_steps.proofs.ResultLemmas.{on_ok}
use Rattle.replay_command.proofs.Reports.{closes_so, says_epochs}
use Rattle.replay_command.proofs.replayer.ReplayerReporter.close.Goals as goal

pub returns-clause-closed : goal.returns-clause-closed
returns-clause-closed g c = λ first done latest closed open_ sent so_far cut.
    on_ok c.run.result
    (λ on. (
      so_far.0,
      closes_so first.replay c.args.self.now.replay c.run.new.self done latest closed open_ sent 0 c.run.new.text on,
    ))
    (c.run.ensures first.replay done latest closed open_ sent so_far.1)

pub returns-clause-says : goal.returns-clause-says
returns-clause-says g c = λ first done latest closed open_ sent so_far cut.
    on_ok c.run.result
    (λ on. says_epochs first.replay c.run.new.self done latest (closed ++ open_ ∷ []) (sent ++ c.run.new.text) []
    (closes_so first.replay c.args.self.now.replay c.run.new.self done latest closed open_ sent 0 c.run.new.text on) cut)
    (c.run.ensures first.replay done latest closed open_ sent so_far.1)
