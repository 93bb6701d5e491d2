pub mod Reasons
pub mod Transcript
pub mod Written
pub mod Heads
