mod BookFacts
pub mod BookLemmas
