pub mod Private
pub mod StarHeight
pub mod Steps
