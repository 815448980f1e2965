pub mod Pens
pub mod Jobs
pub mod Lent
