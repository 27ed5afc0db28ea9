pub mod FirstLemmas
pub mod GatherLemmas
pub mod LoadLemmas
pub mod LowestTerms
pub mod MarkLemmas
pub mod MeasureLemmas
pub mod RowLemmas
pub mod WorstLemmas
