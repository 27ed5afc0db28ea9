pub mod Figures
pub mod Quotes
