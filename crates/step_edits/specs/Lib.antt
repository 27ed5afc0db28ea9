pub mod Edits
pub mod Printed
