pub mod ListValue
pub mod Stored
pub mod Postings
pub mod Laws
pub mod Private
