pub mod FitLemmas
pub mod RankLemmas
pub mod WalkLemmas
pub mod ChoiceLemmas
pub mod ChosenLemmas
pub mod LawLemmas
mod StandardFacts
