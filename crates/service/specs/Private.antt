-- What only the contracts of private functions cite. A clause can cite only `pub` modules.
pub mod Entries
pub mod Items
pub mod Requests
pub mod Closing
pub mod NextTurns
