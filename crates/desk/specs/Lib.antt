pub mod Counts
pub mod History
pub mod Desk
pub mod Laws
pub mod Private
