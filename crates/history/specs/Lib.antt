pub mod History
pub mod Private
