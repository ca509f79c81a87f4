use Rattle.std.proofs.Common.{◌++◌, ◌∙◌, Option, None, OnOk, List, [], sym, subst}
use Rattle.packet_steps.proofs.ResultLemmas.{on_ok}
use Rattle.trace_lines.specs.Line.{Line}
use Rattle.trace_lines.specs.declared.bad.LineBad.{LineBad}
use Rattle.replay_command.specs.Standing.{Replayed, ReplayedAll}
use Rattle.replay_command.proofs.NoLines.{notes_on}
use Rattle.replay_command.proofs.Reports.{all_so, none_so}
use Rattle.replay_command.proofs.replay.Replay.run_rest.Goals as goal

pub returns-then-is_done : goal.returns-then-is_done
returns-then-is_done g c = λ first done latest closed open_ sent so_far counted.
    let now = c.args.self.now in
    let none = c.if-is_done.ensures in
    let empty = sym so_far.kept ∙ none.0 in
    subst (λ (bad : Option LineBad). ReplayedAll first now done closed open_ bad (sent ++ c.args.text.now)) (sym none.1)
    (subst (λ (lines : List Line). ReplayedAll first now done closed lines None (sent ++ c.args.text.now)) (sym empty)
    (none_so first now done latest closed sent c.args.text.now
    (subst (λ (lines : List Line). Replayed first now done latest closed lines sent c.args.text.now) empty so_far)))

pub returns-then-is_closed : goal.returns-then-is_closed
returns-then-is_closed g c = λ first done latest closed open_ sent so_far counted.
    let now = c.args.self.now in
    let text = c.push_noted.new.report in
    let empty = sym so_far.kept ∙ c.if-is_closed.ensures in
    subst (λ (lines : List Line). OnOk c.push_noted.result
    (ReplayedAll first now done closed lines c.args.bad (sent ++ text))) (sym empty)
    (on_ok c.push_noted.result
    (λ said. all_so first now now done latest closed [] sent c.args.bad c.args.number text counted
    (λ none bad. c.if-is_done.ensures c.if-is_closed.ensures bad)
    (notes_on first now done latest closed sent c.args.text.now c.args.bad c.args.number text
    (subst (λ (lines : List Line). Replayed first now done latest closed lines sent c.args.text.now) empty so_far) said))
    (c.push_noted.ensures first.places))

pub returns : goal.returns
returns g c = λ first done latest closed open_ sent so_far counted.
    on_ok c.run.result
    (all_so first c.args.self.now c.run.new.self done latest closed open_ sent c.args.bad c.args.number c.run.new.text
    counted (λ none bad. c.if-is_done.ensures (so_far.kept ∙ none) bad))
    (c.run.ensures first done latest closed open_ sent so_far)
