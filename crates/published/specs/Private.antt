pub mod Batches
pub mod Names
pub mod Incoming
pub mod Shelf
pub mod Rule
pub mod Copies
pub mod DeskParts
