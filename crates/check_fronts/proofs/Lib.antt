pub mod Ends
pub mod Opens
