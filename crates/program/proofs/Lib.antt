pub mod OutputLemmas
pub mod ResponseLemmas
pub mod SessionLemmas
