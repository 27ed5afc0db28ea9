pub mod Arguments
pub mod Chains
pub mod Lines
pub mod Promised
pub mod Words
