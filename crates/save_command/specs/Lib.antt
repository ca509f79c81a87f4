pub mod Known
pub mod Left
pub mod Saves
