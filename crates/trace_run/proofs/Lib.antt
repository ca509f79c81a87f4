pub mod NextLemmas
pub mod ReadLemmas
pub mod EndingLemmas
pub mod TakeLemmas
pub mod ReportingLemmas
pub mod EntryLemmas
pub mod NotedLemmas
pub mod OpenLemmas
