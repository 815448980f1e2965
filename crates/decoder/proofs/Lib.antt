pub mod Located
pub mod Restoring
pub mod Spatial
