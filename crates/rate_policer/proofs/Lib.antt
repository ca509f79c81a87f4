pub mod Splits
pub mod Volumes
pub mod Levels
pub mod Standing
pub mod Windows
pub mod Looking
pub mod Testing
