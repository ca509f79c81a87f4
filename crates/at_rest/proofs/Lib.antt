pub mod Resting
pub mod Places
pub mod Coming
pub mod Turning
