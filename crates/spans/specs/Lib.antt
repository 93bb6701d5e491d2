pub mod FirstSpan
pub mod FirstStart
pub mod Passes
pub mod PositionSets
pub mod Sides
pub mod Spans
