mod Fours
pub mod Grouping
