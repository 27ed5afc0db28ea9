pub mod Fours
pub mod Lines
