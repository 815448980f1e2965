pub mod Holding
pub mod Deciding
pub mod Answering
pub mod Claims
pub mod Needed
