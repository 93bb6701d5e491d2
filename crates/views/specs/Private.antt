-- What only the contracts of private functions cite. The modules are `pub` because a clause can cite no others.
pub mod Parts
pub mod Near
