pub mod Points
pub mod Groups
