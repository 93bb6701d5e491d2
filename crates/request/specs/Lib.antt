pub mod Words
pub mod Names
pub mod Settings
pub mod Find
pub mod Faults
pub mod Shown
pub mod Private
