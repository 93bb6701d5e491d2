pub mod Forms
pub mod BodyLemmas
pub mod PlaceLemmas
pub mod OrderLemmas
pub mod QueryLemmas
pub mod TextLemmas
pub mod PairLemmas
