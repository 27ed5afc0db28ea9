pub mod Additions
pub mod Extremes
pub mod PercentLemmas
pub mod ScaleLemmas
pub mod SeriesLemmas
pub mod StretchLemmas
