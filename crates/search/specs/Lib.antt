pub mod Front
pub mod Selects
pub mod Commands
pub mod Taken
pub mod Private
