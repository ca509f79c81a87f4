pub mod Words
pub mod Options
pub mod Turns
pub mod Job
pub mod Program
