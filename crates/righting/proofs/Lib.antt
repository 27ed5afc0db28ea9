pub mod Crossed
pub mod Simpson
pub mod Textbook
pub mod Tops
