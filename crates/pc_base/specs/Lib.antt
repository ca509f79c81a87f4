pub mod Addresses
pub mod Imsi
pub mod Padding
pub mod Slots
pub mod Teids
