pub mod Points
pub mod Small
