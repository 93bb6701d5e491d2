pub mod Fields
pub mod Items
pub mod Line
pub mod Private
