pub mod Numbers
pub mod Claims
pub mod Needed
