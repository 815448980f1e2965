pub mod Holding
pub mod Claims
