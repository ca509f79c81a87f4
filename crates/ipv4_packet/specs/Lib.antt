pub mod Fields
pub mod Packet
pub mod Refusal
pub mod Payload
