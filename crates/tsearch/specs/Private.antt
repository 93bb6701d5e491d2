-- What only the contracts of private functions cite.
pub mod Sinks
pub mod Ahead
