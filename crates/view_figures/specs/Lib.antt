pub mod Readings
pub mod Shares
