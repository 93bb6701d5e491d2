pub mod Beginnings
pub mod Turns
pub mod PutLemmas
pub mod PendingLemmas
