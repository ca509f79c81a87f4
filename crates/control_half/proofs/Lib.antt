pub mod Heads
pub mod Applying
pub mod Room
pub mod Runs
pub mod Sending
pub mod Turned
