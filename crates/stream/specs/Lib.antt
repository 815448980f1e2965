pub mod Cursor
pub mod Claims
