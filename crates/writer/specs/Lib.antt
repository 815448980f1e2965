pub mod Pen
pub mod Job
