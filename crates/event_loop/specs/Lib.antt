pub mod Collects
pub mod Running
pub mod Serving
