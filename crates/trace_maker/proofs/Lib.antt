pub mod Steps
pub mod KindLemmas
pub mod WritingLemmas
pub mod TextLemmas
pub mod NumberingLemmas
pub mod ReadLemmas
