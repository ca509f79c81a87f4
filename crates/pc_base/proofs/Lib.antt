mod StandardFacts
pub mod PaddingLemmas
pub mod TextLemmas
mod HexadecimalLemmas
