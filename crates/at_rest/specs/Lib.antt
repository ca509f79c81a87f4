pub mod Meant
pub mod Rest
pub mod Coming
