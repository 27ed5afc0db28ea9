pub mod Bases
pub mod Desks
pub mod Sessions
