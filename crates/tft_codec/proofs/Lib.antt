pub mod Lists
pub mod Kept
pub mod Fields
pub mod ComponentLemmas
pub mod ContentsLemmas
pub mod FilterLemmas
pub mod IdLemmas
pub mod TftLemmas
pub mod Loops
pub mod ReadLemmas
pub mod Bounds
pub mod ApplyLemmas
mod StandardFacts
