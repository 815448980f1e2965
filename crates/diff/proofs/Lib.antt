pub mod Biased
pub mod Firsts
pub mod Coming
pub mod Octets
pub mod Turns
pub mod Passes
