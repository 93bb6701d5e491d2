mod AnchoredLemmas
pub mod TestLemmas
mod FrontLemmas
mod RequestLemmas
mod ShownLemmas
