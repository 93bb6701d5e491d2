pub mod FieldLemmas
pub mod PutLemmas
pub mod OneReading
pub mod EveryTextLemmas
