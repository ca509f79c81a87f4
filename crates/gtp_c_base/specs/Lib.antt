pub mod Fault
pub mod Filter
pub mod Buffer
