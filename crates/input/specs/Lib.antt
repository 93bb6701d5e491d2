pub mod Stream
pub mod Laws
pub mod Owned
pub mod Private
pub mod Read
pub mod Next
pub mod ReadLaws
