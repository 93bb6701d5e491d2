pub mod Bits
pub mod Meaning
pub mod PassLemmas
pub mod Sides
pub mod SpanLaws
pub mod StartLaws
