pub mod Meanings
pub mod LineLemmas
pub mod Epochs
pub mod Inputs
pub mod Same
pub mod Cuts
pub mod PartLemmas
pub mod Lockstep
pub mod SoloLemmas
mod WithoutPlaces
mod OneThread
mod Confirmed
mod Marks
mod Fates
mod HeldTold
mod OctetsTold
mod EventsIn
mod EntriesIn
mod OctetsConfirmed
mod RunConfirmed
mod CutRuns
mod OneResumed
mod OneResumedRun
mod OneSaved
mod BooksPosted
mod BucketsAsked
mod BucketsTried
mod PacketsPlanned
mod VersionsBrought
mod KeptRanges
mod SessionsKept
mod ElementsKept
mod CommandsKept
mod SubscribersGoOn
mod InputsInOrder
mod GatewaysHold
mod LinesAnswered
mod EpochsAnswered
mod SoloExists
