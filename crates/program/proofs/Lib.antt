pub mod StopLemmas
pub mod TrialLemmas
pub mod WrittenLemmas
