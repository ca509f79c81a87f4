pub mod EpochLemmas
pub mod StandLemmas
pub mod Reports
