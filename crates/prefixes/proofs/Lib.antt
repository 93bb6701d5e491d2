pub mod UnderLemmas
mod ReducedLemmas
