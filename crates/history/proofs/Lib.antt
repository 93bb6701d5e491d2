pub mod Beginnings
mod Adding
