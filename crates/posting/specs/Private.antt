-- What only the contracts of private functions cite. A clause can cite only `pub` modules.
pub mod Gaps
pub mod PageTable
pub mod Pages
pub mod Parts
pub mod Selection
pub mod Sets
pub mod Moves
