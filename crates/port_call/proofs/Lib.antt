pub mod AboardBounds
pub mod ArrivalLemmas
pub mod BodyBounds
pub mod CaseLemmas
pub mod Digits
pub mod StepBounds
pub mod Totals
