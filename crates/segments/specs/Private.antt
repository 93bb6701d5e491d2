-- What only the contracts of private functions cite. A clause can cite only `pub` modules.
pub mod Table
pub mod Keys
pub mod Below
pub mod Places
pub mod Selection
pub mod Joins
pub mod Gaps
pub mod Bits
pub mod PlaceBytes
pub mod Keyed
pub mod Marked
pub mod Known
