-- What only the contracts of private functions cite. The modules are `pub` because a clause can cite no others.
pub mod Ways
pub mod Seekers
pub mod Documents
pub mod Parts
pub mod Added
pub mod Pieces
pub mod Rows
pub mod Known
pub mod Gathered
