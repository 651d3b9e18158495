pub mod Seen
pub mod Calls
pub mod Handles
pub mod Ends
pub mod Steps
pub mod Upkeep
pub mod Tended
