pub mod QuadLemmas
