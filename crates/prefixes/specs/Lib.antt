pub mod Under
pub mod Private
