pub mod Findings
pub mod Firsts
pub mod Limits
pub mod Lowest
pub mod Rows
pub mod Stretches
pub mod Worst
