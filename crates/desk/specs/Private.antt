pub mod Batches
pub mod Sight
pub mod Rule
pub mod Puts
pub mod Pending
