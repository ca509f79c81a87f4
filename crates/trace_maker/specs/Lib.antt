pub mod Draws
pub mod Generated
pub mod Numbering
pub mod Packets
pub mod Plan
pub mod Said
pub mod Written
