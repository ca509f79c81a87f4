use Rattle.epoch_schedule.proofs.Indices.{indexed_same}
use Rattle.epoch_schedule.proofs.roster.Roster.is_past.Goals as goal

pub stands_before-requires-clause-indexed : goal.stands_before-requires-clause-indexed
stands_before-requires-clause-indexed c known =
    indexed_same _ _ _ _ c.as_slice.ensures.value c.as_slice-2.ensures.value (c.self.invariant.indexed known)
