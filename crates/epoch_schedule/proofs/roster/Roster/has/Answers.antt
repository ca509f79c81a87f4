use Rattle.epoch_schedule.proofs.Indices.{indexed_same}
use Rattle.epoch_schedule.proofs.roster.Roster.has.Goals as goal

pub has_half-requires : goal.has_half-requires
has_half-requires c known =
    indexed_same _ _ _ _ c.as_slice.ensures.value c.as_slice-2.ensures.value (c.self.invariant.indexed known)
