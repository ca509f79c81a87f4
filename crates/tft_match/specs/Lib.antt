pub mod Fit
pub mod Ends
pub mod Choice
pub mod Walk
pub mod Chosen
