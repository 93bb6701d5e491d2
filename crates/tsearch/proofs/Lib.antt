pub mod SinkLemmas
pub mod AheadLemmas
pub mod EndLemmas
