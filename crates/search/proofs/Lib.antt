pub mod SelectsLemmas
pub mod ScanLemmas
mod TakenLemmas
pub mod CandidateLemmas
mod NameLemmas
mod SweepLemmas
mod TestLemmas
mod WayLemmas
mod SeekerLemmas
mod FewLemmas
mod PieceLemmas
mod PlaceLemmas
pub mod RowLemmas
mod UpToLemmas
mod LimitLemmas
mod ViewLemmas
mod GatherLemmas
mod GathersLemmas
mod JoinLemmas
mod KnownLemmas
mod FitLemmas
mod AnswerLemmas
mod FirstLemmas
