pub mod TextsLemmas
pub mod AnalysisLemmas
pub mod MemberLemmas
pub mod JoinLemmas
pub mod CoverLemmas
pub mod ExactLemmas
pub mod LawLemmas
pub mod Sameness
