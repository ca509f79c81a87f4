pub mod KnownOctets
pub mod Newlines
pub mod Parts
pub mod Settling
mod RoundLemmas
pub mod ReadSteps
pub mod OneAnswerCases
pub mod ToldLemmas
mod Rests
pub mod Pieces
pub mod InputTexts
pub mod InputLemmas
