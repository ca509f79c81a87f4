mod StandardFacts
mod ImsiLemmas
pub mod StandLemmas
pub mod ContextLemmas
pub mod ValueLemmas
pub mod ReadBackLemmas
pub mod ContextReadBack
pub mod ContextValidity
