pub mod Kept
pub mod Lending
pub mod Replaying
