pub mod Response
pub mod Reads
pub mod Laws
