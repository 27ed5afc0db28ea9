pub mod CountLemmas
pub mod EntryLemmas
pub mod MessageLemmas
pub mod StepLemmas
pub mod StepWalks
pub mod Texts
pub mod CountedLemmas
