use Rattle.std.proofs.Common.{◌+◌, length, subst, sym}
use Rattle.solo_command.specs.Holding.{Holds, gateway_of}
use Rattle.solo_command.proofs.Answered.{on_ok}
use Rattle.solo_command.proofs.GiveLemmas.{gives_after}
use Rattle.solo_command.proofs.resumer.ResumerReporter.finish.Goals as goal

pub returns : goal.returns
returns c = λ first done latest closed open_ sent told cut counted.
    on_ok c.push_opens.result
    (gives_after (gateway_of first.solo) c.args.self.now.solo c.end_epoch.new.self c.args.ending done (first.lines + 1)
    c.args.lines latest (length done) closed open_ sent c.args.text.now c.push_ending.new.text c.end_epoch.new.report
    c.push_opens.new.report told cut counted c.in_ok-push_ending.ensures
    (c.in_ok-end_epoch.ensures.ends told.told told.gathered) c.end_epoch.ensures.same)
    (c.push_opens.ensures.own (length done) latest
    (subst (Holds (length done) latest) (sym c.end_epoch.ensures.same) told.holds))
