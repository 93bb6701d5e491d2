pub mod Translation
pub mod SameLines
pub mod FirstLine
pub mod Patterns
pub mod NextMatch
