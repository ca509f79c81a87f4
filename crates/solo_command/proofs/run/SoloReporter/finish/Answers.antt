use Rattle.std.proofs.Common.{arith, length, subst, sym}
use Rattle.solo_command.specs.Gateway.{no_subscribers}
use Rattle.solo_command.specs.Holding.{Holds}
use Rattle.solo_command.specs.Progress.{closed_events, open_meant}
use Rattle.solo_command.specs.Standing.{story_of, with_end}
use Rattle.solo_command.proofs.Answered.{on_ok_both}
use Rattle.solo_command.proofs.GiveLemmas.{gives_after}
use Rattle.solo_command.proofs.ReportLemmas.{is_due}
use Rattle.solo_command.proofs.run.SoloReporter.finish.Goals as goal

pub returns : goal.returns
returns c = λ first done latest closed open_ sent answered cut counted.
    let story = story_of done latest (closed_events closed) (open_meant closed open_) in
    let told = answered.told in
    on_ok_both c.push_opens.result
    (λ after own. is_due c.args.self.now c.args.ending done latest c.args.lines closed open_ sent c.args.text.now
    c.push_ending.new.text c.end_epoch.new.report c.push_opens.new.report answered cut (omega (arith, counted))
    c.in_ok-push_ending.ensures (c.in_ok-end_epoch.ensures.told story answered.stands) after
    (gives_after no_subscribers c.args.self.now c.end_epoch.new.self c.args.ending done 1 c.args.lines latest
    (length done) closed open_ sent c.args.text.now c.push_ending.new.text c.end_epoch.new.report
    c.push_opens.new.report told cut counted c.in_ok-push_ending.ensures
    (c.in_ok-end_epoch.ensures.ends told.told told.gathered) c.end_epoch.ensures.same own))
    (c.push_opens.ensures.after (with_end story) (c.in_ok-end_epoch.ensures.stands story answered.stands))
    (c.push_opens.ensures.own (length done) latest
    (subst (Holds (length done) latest) (sym c.end_epoch.ensures.same) told.holds))
