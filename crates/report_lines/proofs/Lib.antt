pub mod WordLemmas
pub mod FieldLemmas
pub mod EntryLemmas
pub mod TextLemmas
pub mod KeepLemmas
pub mod ReadLemmas
pub mod WritingLemmas
mod HeadLemmas
pub mod PlusLemmas
pub mod CountLemmas
pub mod AddLemmas
