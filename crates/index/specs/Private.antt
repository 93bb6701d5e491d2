-- What only private items cite. The modules are `pub` because a clause can cite no others.
pub mod Analysis
pub mod Numbered
pub mod Contents
pub mod Plain
pub mod Slots
pub mod Sets
pub mod Store
pub mod Chosen
pub mod Copying
pub mod Moving
