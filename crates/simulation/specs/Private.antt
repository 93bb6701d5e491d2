-- What only the contracts of private functions cite.
pub mod Words
pub mod Rows
pub mod Sequences
pub mod Reading
