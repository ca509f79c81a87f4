pub mod Arrivals
pub mod AtDesks
pub mod Growing
pub mod Homes
pub mod Leavings
pub mod Rising
pub mod Rounds
pub mod Seeing
pub mod Seeks
pub mod Views
mod Walks
pub mod DataCauses
pub mod DataChains
pub mod DataChanges
pub mod DataKnowing
pub mod DataRuns
pub mod DataSlotSums
