pub mod Packed
pub mod Walk
pub mod Groups
