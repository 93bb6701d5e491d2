pub mod RelationLemmas
pub mod NodeLemmas
pub mod MemberLemmas
pub mod ClassLemmas
pub mod LineLemmas
pub mod MatchLemmas
pub mod CutLemmas
pub mod LawLemmas
pub mod Deciding
pub mod SameLineLemmas
mod NextLemmas
