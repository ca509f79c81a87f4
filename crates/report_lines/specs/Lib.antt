pub mod Records
pub mod Words
pub mod Text
pub mod Lent
pub mod Ranges
pub mod Reading
pub mod Counts
pub mod Summary
