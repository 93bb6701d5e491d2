pub mod CalledOff
