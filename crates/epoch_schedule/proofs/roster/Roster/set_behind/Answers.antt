use Rattle.epoch_schedule.proofs.Indices.{indexed_same}
use Rattle.epoch_schedule.proofs.roster.Roster.set_behind.Goals as goal

pub behind_slot-self-inside-requires : goal.behind_slot-self-inside-requires
behind_slot-self-inside-requires c known =
    indexed_same _ _ _ _ c.as_slice.ensures.value c.as_slice-2.ensures.value (c.self.invariant.indexed known)
