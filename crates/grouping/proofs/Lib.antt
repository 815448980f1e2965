pub mod Slices
pub mod Levels
pub mod Looking
pub mod Taking
pub mod Filling
pub mod Refusing
