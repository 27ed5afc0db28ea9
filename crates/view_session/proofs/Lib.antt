pub mod LawLemmas
pub mod ShelfLemmas
pub mod TrailLemmas
