pub mod Claims
pub mod Fields
pub mod Kind
pub mod Read
