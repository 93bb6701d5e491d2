pub mod BodyLemmas
pub mod VersionLemmas
pub mod SaidLemmas
pub mod FreshLemmas
pub mod GatherLemmas
mod AfterLemmas
mod CopyLemmas
mod SinceLemmas
mod MergeLemmas
mod GrowingLemmas
