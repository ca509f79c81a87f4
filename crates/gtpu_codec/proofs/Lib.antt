pub mod ExtensionLemmas
pub mod MessageLemmas
pub mod PlaceLemmas
pub mod SpellingLemmas
mod StandardFacts
pub mod TextLemmas
