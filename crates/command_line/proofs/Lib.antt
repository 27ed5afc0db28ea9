pub mod Chain
pub mod CheckWords
pub mod LineReads
pub mod OptionReads
