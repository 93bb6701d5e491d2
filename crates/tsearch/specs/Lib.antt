pub mod Legal
pub mod Served
pub mod Private
