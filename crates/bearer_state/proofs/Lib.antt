pub mod ListLemmas
pub mod VersionLemmas
pub mod FirstLemmas
pub mod BearerLemmas
pub mod SessionLemmas
pub mod Few
