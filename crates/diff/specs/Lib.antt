pub mod Kept
pub mod Restoring
