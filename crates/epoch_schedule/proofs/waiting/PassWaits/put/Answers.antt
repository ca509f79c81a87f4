use Rattle.std.proofs.Common.{subst, sym}
use Rattle.epoch_schedule.specs.Waiting.{IsPut}
use Rattle.epoch_schedule.specs.declared.waiting.PassWaits.{PassWaits}
use Rattle.epoch_schedule.specs.declared.waiting.Want.{Want}
use Rattle.epoch_schedule.proofs.Kept.{on_ok, on_both}
use Rattle.epoch_schedule.proofs.Wants.{put_nothing, put_visit, put_room}
use Rattle.epoch_schedule.proofs.waiting.PassWaits.put.Goals as goal

pub returns-in-Nothing : goal.returns-in-Nothing
returns-in-Nothing c =
    let old : PassWaits = c.args.self.now in
    subst (λ (now : Want). IsPut c.args.slot now old old) (sym c.in-Nothing.is) (put_nothing c.args.slot old)

pub returns-in-Visit : goal.returns-in-Visit
returns-in-Visit c =
    let old : PassWaits = c.args.self.now in
    let new : PassWaits = record old { visits = c.insert.new.self } in
    on_ok c.insert.result (λ is. subst (λ (now : Want). IsPut c.args.slot now old new) (sym c.in-Visit.is)
    (put_visit c.args.slot old c.insert.new.self is)) c.insert.ensures

pub returns-in-Room : goal.returns-in-Room
returns-in-Room c =
    let old : PassWaits = c.args.self.now in
    let new : PassWaits = record old { lanes = c.put_in.new.lanes } in
    on_both c.put_in.result (λ own more. subst (λ (now : Want). IsPut c.args.slot now old new) (sym c.in-Room.is)
    (put_room c.args.slot old c.in-Room.lane c.put_in.new.lanes own more)) c.put_in.ensures.own c.put_in.ensures.more
