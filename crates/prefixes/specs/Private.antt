-- How prefixes are kept. The modules are `pub` because a clause can cite no others.
pub mod Apart
