pub mod NumberLemmas
pub mod Options
pub mod Settled
pub mod LawLemmas
