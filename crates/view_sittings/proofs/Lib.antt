pub mod SittingLemmas
