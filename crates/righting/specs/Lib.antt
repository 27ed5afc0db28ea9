pub mod Aboard
pub mod Levers
pub mod Sums
