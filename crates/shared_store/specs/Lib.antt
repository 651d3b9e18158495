pub mod Chronicles
pub mod Passes
pub mod Calls
pub mod Holding
pub mod Acts
pub mod Stores
pub mod Upkeep
pub mod Lone
