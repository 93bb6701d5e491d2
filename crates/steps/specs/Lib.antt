pub mod Rows
pub mod LegalRows
pub mod Asked
pub mod Steps
pub mod StepRows
pub mod Entries
