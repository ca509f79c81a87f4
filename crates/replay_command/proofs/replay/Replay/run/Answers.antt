use Rattle.std.proofs.Common.{refl}
use Rattle.replay_command.proofs.Reports.{on_both, runs_on}
use Rattle.replay_command.proofs.replay.Replay.run.Goals as goal

pub returns : goal.returns
returns g c = λ first done latest closed open_ sent so_far.
    on_both c.replay_lines.result
    (λ replayed emptied. runs_on first c.args.self.now (record c.args.self.now {
      rest = c.replay_lines.new.rest;
      lines = c.replay_lines.new.lines;
      buffers = c.replay_lines.new.buffers;
    }) done latest closed open_ sent c.args.bad c.args.number c.args.text.now c.replay_lines.new.report
    c.args.self.now.pace so_far replayed emptied refl)
    c.replay_lines.ensures.replayed c.replay_lines.ensures.emptied
