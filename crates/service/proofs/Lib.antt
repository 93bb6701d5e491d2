pub mod ItemLemmas
pub mod CarryLemmas
pub mod ServiceLemmas
pub mod TurnsLemmas
pub mod CollectedLemmas
