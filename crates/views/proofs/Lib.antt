pub mod TextLemmas
mod LineEnds
pub mod LineLemmas
pub mod RowLemmas
mod NearLemmas
pub mod PartLemmas
mod ShownLemmas
pub mod OneAnswer
