pub mod Sums
pub mod Keeps
pub mod Tells
pub mod Turns
pub mod Answered
pub mod Applies
