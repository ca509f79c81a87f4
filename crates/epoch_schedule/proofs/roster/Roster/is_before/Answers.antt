use Rattle.epoch_schedule.proofs.Indices.{indexed_same}
use Rattle.epoch_schedule.proofs.roster.Roster.is_before.Goals as goal

pub is_first-requires-clause-indexed : goal.is_first-requires-clause-indexed
is_first-requires-clause-indexed c known =
    indexed_same _ _ _ _ c.as_slice.ensures.value c.as_slice-2.ensures.value (c.self.invariant.indexed known)
