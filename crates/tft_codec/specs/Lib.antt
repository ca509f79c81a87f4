pub mod Types
pub mod Component
pub mod Filter
pub mod Tft
pub mod Spelling
pub mod Reading
pub mod Refusal
pub mod Apply
