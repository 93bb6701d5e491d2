pub mod Nodes
pub mod Pending
pub mod Private
pub mod Packing
pub mod Simulations
