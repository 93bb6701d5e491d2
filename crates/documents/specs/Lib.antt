pub mod Text
pub mod Documents
pub mod State
pub mod Shared
