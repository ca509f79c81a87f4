pub mod ChoiceLemmas
pub mod GtpuLemmas
pub mod HeadLemmas
pub mod ImsiLemmas
