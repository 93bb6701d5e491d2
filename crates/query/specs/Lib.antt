pub mod Trigrams
pub mod Texts
pub mod Pairs
pub mod Query
pub mod Private
