pub mod View
pub mod Inside
pub mod Records
pub mod Opens
pub mod Kept
pub mod Calls
pub mod Upkeep
pub mod Checkpoints
