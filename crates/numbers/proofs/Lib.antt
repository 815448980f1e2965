pub mod Windows
pub mod Lists
pub mod Recordings
