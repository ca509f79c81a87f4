use Rattle.migration.proofs.DataTables.{accepts_any, takes_back}
use Rattle.migration.proofs.data_steps.give_parked.Goals as goal

pub returns-clause-accepted : goal.returns-clause-accepted
returns-clause-accepted g c =
    accepts_any c.args.item c.args.slot c.args.place.now.accepted.items c.and-more.result.items
    c.accept.new.accepted.items c.and-more.ensures c.park-answer.result
    c.accept.ensures.ok c.accept.ensures.err
    (takes_back _ c.args.item c.park-answer.result _ _ c.park-answer.ensures)
