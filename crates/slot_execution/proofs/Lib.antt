pub mod KeptLemmas
pub mod LentOctets
mod Octets
mod Steps
