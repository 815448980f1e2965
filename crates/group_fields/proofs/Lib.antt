pub mod Checks
pub mod Walked
pub mod Order
pub mod Parts
