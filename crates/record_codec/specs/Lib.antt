pub mod Saved
pub mod Spelling
pub mod Read
pub mod StateText
pub mod StateLines
pub mod StateReading
pub mod StateLaws
