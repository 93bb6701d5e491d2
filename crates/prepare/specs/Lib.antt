pub mod Anchored
pub mod Pattern
pub mod Tests
pub mod Prepared
pub mod Request
pub mod Front
pub mod Queries
