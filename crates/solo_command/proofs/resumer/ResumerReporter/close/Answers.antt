use Rattle.std.proofs.Common.{◌∷◌, ◌++◌, [], length}
use Rattle.lawful_run.proofs.CutLines.{cut_closed}
use Rattle.solo_command.specs.Holding.{gateway_of}
use Rattle.solo_command.proofs.Answered.{on_ok_both}
use Rattle.solo_command.proofs.GiveLemmas.{says_given, told_closed}
use Rattle.solo_command.proofs.resumer.ResumerReporter.close.Goals as goal

pub returns-clause-closed : goal.returns-clause-closed
returns-clause-closed c = λ first done latest closed open_ sent told cut.
    on_ok_both c.end_epoch.result
    (λ emptied ends. told_closed (gateway_of first.solo) c.args.self.now.solo c.end_epoch.new.self (length done) latest
    closed open_ sent c.args.text.now c.end_epoch.new.report told c.end_epoch.ensures.same (emptied _) ends)
    c.end_epoch.ensures.emptied (c.end_epoch.ensures.ends told.told told.gathered)

pub returns-clause-says : goal.returns-clause-says
returns-clause-says c = λ first done latest closed open_ sent told cut.
    let epochs = closed ++ open_ ∷ [] in
    on_ok_both c.end_epoch.result
    (λ emptied ends. says_given (gateway_of first.solo) c.end_epoch.new.self (length done) latest epochs
    (sent ++ c.end_epoch.new.report)
    (told_closed (gateway_of first.solo) c.args.self.now.solo c.end_epoch.new.self (length done) latest
    closed open_ sent c.args.text.now c.end_epoch.new.report told c.end_epoch.ensures.same (emptied _) ends)
    (cut_closed done epochs [] cut))
    c.end_epoch.ensures.emptied (c.end_epoch.ensures.ends told.told told.gathered)
