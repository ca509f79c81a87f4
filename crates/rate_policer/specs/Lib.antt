pub mod Conforming
pub mod Buckets
