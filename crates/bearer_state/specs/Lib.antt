pub mod Qos
pub mod Bearer
pub mod Ask
pub mod Session
pub mod Version
pub mod Lookup
pub mod Changes
