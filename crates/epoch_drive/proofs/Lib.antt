pub mod One
pub mod Rising
pub mod Accounting
pub mod Lawful
pub mod Budgets
pub mod Telling
pub mod Owing
pub mod RunsLawful
pub mod Forms
pub mod There
pub mod NotedEpoch
mod Turning
pub mod Keeping
mod Bounds
mod Moments
mod ShareLemmas
mod Replaying
mod EntryLemmas
mod Events
mod Scheduled
mod Driven
mod Ends
mod Drives
mod Finals
mod Epochs
mod Sets
mod Wholes
