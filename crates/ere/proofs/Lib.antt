pub mod Forms
pub mod Words
mod SetLemmas
mod LetterLemmas
pub mod Bits
pub mod SetWords
mod LaneLemmas
mod Texts
mod BracketLemmas
mod BracketSteps
mod TokenLemmas
mod TokenSteps
mod GrammarLemmas
mod PartLemmas
mod ReaderSteps
mod TreeLaws
pub mod Sizes
mod EdgeLemmas
mod LiteralLemmas
mod FrameLemmas
pub mod OneWay
