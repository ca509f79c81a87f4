pub mod ApartLemmas
pub mod ToldLemmas
pub mod Stands
pub mod Reports
pub mod NoLines
