pub mod Apart
pub mod Epoch
pub mod Standing
