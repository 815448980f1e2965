pub mod Rows
pub mod Answers
pub mod Writing
pub mod Claims
