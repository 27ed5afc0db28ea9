pub mod ChangeLemmas
pub mod FourLemmas
pub mod OffsetLemmas
pub mod PlaceLemmas
pub mod RenewLemmas
pub mod RunLemmas
pub mod SumLemmas
pub mod SwapLemmas
