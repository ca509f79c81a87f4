pub mod Seats
pub mod Threads
pub mod Lines
pub mod Serving
