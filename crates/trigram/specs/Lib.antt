pub mod Texts
pub mod Analysis
pub mod Laws
pub mod Private
pub use Rattle.query.specs.Trigrams
pub use Rattle.query.specs.Query
