pub mod Sessions
pub mod Shown
pub mod Answers
