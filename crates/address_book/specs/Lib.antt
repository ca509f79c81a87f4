pub mod Book
pub mod Index
