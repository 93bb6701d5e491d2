-- How names lie in chunks. The modules are `pub` because a clause can cite no others.
pub mod Entries
pub mod Counted
