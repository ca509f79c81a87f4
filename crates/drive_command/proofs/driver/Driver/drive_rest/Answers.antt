use Rattle.std.proofs.Common.{◌++◌, Option, None, List, sym, subst}
use Rattle.packet_steps.proofs.ResultLemmas.{on_ok}
use Rattle.trace_lines.specs.Line.{Line}
use Rattle.trace_lines.specs.declared.bad.LineBad.{LineBad}
use Rattle.drive_command.specs.Standing.{Drove, DroveAll}
use Rattle.drive_command.proofs.Reports.{all_so, none_so}
use Rattle.drive_command.proofs.driver.Driver.drive_rest.Goals as goal

pub returns-then-is_done : goal.returns-then-is_done
returns-then-is_done c = λ first done latest closed open_ sent so_far counted.
    let now = c.args.self.now in
    let none = c.if-is_done.ensures so_far.start open_ so_far.taken in
    subst (λ (bad : Option LineBad). DroveAll first now done closed open_ bad (sent ++ c.args.text.now)) (sym none.1)
    (subst (λ (lines : List Line). DroveAll first now done closed lines None (sent ++ c.args.text.now)) (sym none.0)
    (none_so first now done latest closed sent c.args.text.now
    (subst (λ (lines : List Line). Drove first now done latest closed lines sent c.args.text.now) none.0 so_far)))

pub returns : goal.returns
returns c = λ first done latest closed open_ sent so_far counted.
    on_ok c.drive.result
    (all_so first c.args.self.now c.drive.new.self done latest closed open_ sent c.args.bad c.args.number
    c.drive.new.text counted (λ none bad. c.if-is_done.ensures so_far.start open_ so_far.taken none bad))
    (c.drive.ensures first done latest closed open_ sent so_far)
