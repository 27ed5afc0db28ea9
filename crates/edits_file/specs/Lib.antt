pub mod Faults
pub mod Forms
pub mod Reading
pub mod Words
