pub mod PacketLemmas
mod StandardFacts
