pub mod Extension
pub mod Head
pub mod Kind
pub mod Message
pub mod Place
pub mod Refusal
pub mod Spelling
pub mod Text
