pub mod Counted
pub mod Cut
pub mod Folds
pub mod Lasts
pub mod Laws
pub mod Printed
pub mod Rows
pub mod Stored
