-- What only private items cite. The modules are `pub` because a clause can cite no others.
pub mod Version
pub mod Fresh
pub mod Gathered
pub mod Merging
pub mod Growing
