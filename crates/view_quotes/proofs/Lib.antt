pub mod NumberLemmas
pub mod StandingLemmas
pub mod RecordLemmas
