pub mod Homecomings
pub mod Words
pub mod DataHomecomings
pub mod DataLefts
pub mod DataPlaced
pub mod DataSteps
pub mod DataWords
