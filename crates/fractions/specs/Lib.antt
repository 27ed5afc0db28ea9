pub mod Marks
pub mod Order
pub mod Rounded
