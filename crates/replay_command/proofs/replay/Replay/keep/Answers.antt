use Rattle.std.proofs.Common.{◌++◌, ◌∷◌, [], refl, ap, ◌∙◌}
use Rattle.replay_command.proofs.Reports.{takes_so}
use Rattle.replay_command.proofs.replay.Replay.keep.Goals as goal

pub returns : goal.returns
returns c = λ first done latest closed open_ sent waiting so_far next.
    takes_so first c.args.self.now (record c.args.self.now { lines = c.push.new.self }) done latest closed open_ sent
    waiting c.args.line.now so_far next refl refl
    (c.in_ok-push.ensures.items ∙ ap (λ line. c.args.self.now.lines.items ++ line ∷ []) c.replace-own.ensures.value)
