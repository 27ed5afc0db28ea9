pub mod Figures
pub mod Floating
pub mod Leading
