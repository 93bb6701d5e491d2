-- What only the contracts of private functions cite. A clause can cite only `pub` modules.
pub mod Reading
pub mod SetWords
pub mod SetInverse
pub mod Lanes
