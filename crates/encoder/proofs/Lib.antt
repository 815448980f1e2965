pub mod Resting
pub mod Outcome
