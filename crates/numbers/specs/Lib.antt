pub mod Windows
pub mod Records
