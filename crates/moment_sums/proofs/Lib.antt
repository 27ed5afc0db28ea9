pub mod Bounding
pub mod Bounds
pub mod ChangeLemmas
pub mod KeptLemmas
pub mod PlaceLemmas
pub mod Sizes
pub mod StepLemmas
