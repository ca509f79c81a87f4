pub mod Ends
pub mod Sequence
