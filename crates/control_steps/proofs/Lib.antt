pub mod MessageLemmas
pub mod ElementLemmas
pub mod WrittenLemmas
pub mod WrittenTable
pub mod RiseLemmas
mod StandardFacts
