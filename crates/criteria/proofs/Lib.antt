pub mod Comparing
pub mod Finding
pub mod Orders
