pub mod Bounded
pub mod Changes
pub mod Kept
pub mod KeptLaws
pub mod Shares
pub mod Sum
