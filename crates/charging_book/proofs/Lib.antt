pub mod Places
pub mod Steps
pub mod Standing
pub mod Pieces
pub mod Partition
pub mod LedgerSums
pub mod Bounds
pub mod PostingLemmas
pub mod PartLemmas
pub mod KeptLemmas
pub mod PostedLemmas
mod Answered
