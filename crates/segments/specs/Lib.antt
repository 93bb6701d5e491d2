pub mod Contents
pub mod Bodies
pub mod Private
