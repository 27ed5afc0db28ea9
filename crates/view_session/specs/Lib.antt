pub mod Commands
pub mod Kept
pub mod Laws
pub mod Shelves
pub mod Trails
