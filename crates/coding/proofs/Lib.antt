pub mod Firsts
pub mod Codings
pub mod Divisors
