pub mod Message
pub mod Template
