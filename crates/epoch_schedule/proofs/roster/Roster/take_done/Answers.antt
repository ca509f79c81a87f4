use Rattle.std.proofs.Common.{None, List, ℕ, set, subst, sym}
use Rattle.epoch_schedule.specs.Rosters.{OnlyCalled}
use Rattle.epoch_schedule.proofs.Indices.{less_called}
use Rattle.epoch_schedule.proofs.Rosters.{roster_left}
use Rattle.epoch_schedule.proofs.roster.Roster.take_done.Goals as goal

pub invariant_of-self : goal.invariant_of-self
invariant_of-self c =
    let own = c.self.inside in
    let done = c.leave_hole-self-inside.ensures in
    let n = c.first_done-index.result in
    roster_left own.halves.items _ own.index.items own.once own.holes _ own.next n own.called.items
    c.leave_out.new.called.items c.self.invariant done.items done.less done.few
    (subst (λ (xs : List ℕ). OnlyCalled (set own.halves.items n None) xs) (sym c.leave_out.ensures)
    (less_called own.halves.items n own.called.items c.self.invariant.only))
