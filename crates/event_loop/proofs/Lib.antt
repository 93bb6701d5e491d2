pub mod HeldLemmas
pub mod RunLemmas
pub mod ServingLemmas
