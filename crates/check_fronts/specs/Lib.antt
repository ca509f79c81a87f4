pub mod Benches
pub mod Rows
pub mod Stands
