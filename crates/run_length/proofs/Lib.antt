pub mod Caps
pub mod Codes
pub mod Turns
pub mod Passes
pub mod Claims
pub mod Needed
