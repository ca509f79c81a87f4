pub mod LineEvents
pub mod PartsMade
pub mod Kept
pub mod FileLemmas
pub mod TakenLemmas
pub mod SaveLemmas
