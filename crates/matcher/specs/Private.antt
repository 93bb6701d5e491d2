pub mod Moves
pub mod Bounds
pub mod Moving
pub mod Longer
pub mod Rounds
