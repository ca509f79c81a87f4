pub mod Lists
pub mod SidesSettling
pub mod Pumping
pub mod SidesMoving
pub mod SidesAdmitting
pub mod Listed
pub mod Giving
pub mod Refusing
pub mod Pushes
pub mod KeptParts
pub mod Loads
pub mod Keeps
pub mod Settling
pub mod Trying
pub mod Lots
pub mod Setting
pub mod Moving
pub mod Admitting
pub mod Commanding
pub mod Receiving
mod Becoming
pub mod Bridging
mod Counting
pub mod Keeping
pub mod Allowing
pub mod Starting
pub mod Moved
pub mod Fronts
pub mod Opens
mod LineDone
mod Pairs
mod Pumps
mod Sides
pub mod Takings
pub mod Telling
pub mod Resting
pub mod Joining
pub mod Epochs
pub mod Pairing
pub mod Placed
pub mod Closed
pub mod Pushing
pub mod Popping
pub mod Nexts
pub mod Endings
pub mod Entries
pub mod Within
pub mod Answered
