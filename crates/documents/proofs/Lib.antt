pub mod ElementLemmas
pub mod LineLemmas
pub mod NameLemmas
pub mod StateLemmas
pub mod RisingLemmas
pub mod ListedLemmas
pub mod RenamedLemmas
pub mod LawLemmas
