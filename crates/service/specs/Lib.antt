pub mod Service
pub mod Turns
pub mod Opening
pub mod Collected
pub mod Request
pub mod Private
