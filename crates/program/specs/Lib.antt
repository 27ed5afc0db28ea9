pub mod Runs
pub mod Trials
pub mod Written
