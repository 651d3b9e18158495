pub mod Machine
pub mod Following
pub mod Stopping
pub mod Mapped
pub mod Listing
