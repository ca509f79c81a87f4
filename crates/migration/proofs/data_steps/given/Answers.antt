use Rattle.std.proofs.Common.{rules}
use Rattle.migration.proofs.DataTables.{rests_there}
use Rattle.migration.proofs.data_steps.given.Goals as goal

pub give_placed-requires-clause-settled : goal.give_placed-requires-clause-settled
give_placed-requires-clause-settled g c = λ κs within.
    (rests_there _ _ c.args.place.now c.requires.fits (search rules)).1
