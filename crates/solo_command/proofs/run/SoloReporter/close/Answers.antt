use Rattle.std.proofs.Common.{◌∷◌, ◌++◌, []}
use Rattle.lawful_run.proofs.CutLines.{cut_closed}
use Rattle.solo_command.specs.Progress.{closed_events, open_meant}
use Rattle.solo_command.specs.Standing.{story_of}
use Rattle.solo_command.proofs.Answered.{on_ok_all}
use Rattle.solo_command.proofs.ReportLemmas.{says_answered}
use Rattle.solo_command.proofs.RunLemmas.{closes}
use Rattle.solo_command.proofs.run.SoloReporter.close.Goals as goal

pub returns-clause-closed : goal.returns-clause-closed
returns-clause-closed c = λ first done latest closed open_ sent answered cut.
    let story = story_of done latest (closed_events closed) (open_meant closed open_) in
    on_ok_all c.end_epoch.result
    (λ stands told emptied ends. closes c.args.self.now c.end_epoch.new.self done latest closed open_ sent
    c.args.text.now c.end_epoch.new.report answered stands told c.end_epoch.ensures.same (emptied _) ends)
    (c.end_epoch.ensures.stands story answered.stands) (c.end_epoch.ensures.told story answered.stands)
    c.end_epoch.ensures.emptied (c.end_epoch.ensures.ends answered.told.told answered.told.gathered)

pub returns-clause-says : goal.returns-clause-says
returns-clause-says c = λ first done latest closed open_ sent answered cut.
    let story = story_of done latest (closed_events closed) (open_meant closed open_) in
    let epochs = closed ++ open_ ∷ [] in
    on_ok_all c.end_epoch.result
    (λ stands told emptied ends. says_answered c.end_epoch.new.self done latest epochs
    (sent ++ c.end_epoch.new.report)
    (closes c.args.self.now c.end_epoch.new.self done latest closed open_ sent
    c.args.text.now c.end_epoch.new.report answered stands told c.end_epoch.ensures.same (emptied _) ends)
    (cut_closed done epochs [] cut))
    (c.end_epoch.ensures.stands story answered.stands) (c.end_epoch.ensures.told story answered.stands)
    c.end_epoch.ensures.emptied (c.end_epoch.ensures.ends answered.told.told answered.told.gathered)
