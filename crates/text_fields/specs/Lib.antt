pub mod Fields
pub mod Number
pub mod Address
pub mod Hexadecimal
pub mod Blocks
