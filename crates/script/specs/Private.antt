-- What only the contracts of private functions cite. A clause can cite only `pub` modules.
pub mod Cuts
pub mod Headers
