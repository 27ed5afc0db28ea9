pub mod Entries
pub mod Rule
pub mod Board
pub mod Claims
pub mod Views
