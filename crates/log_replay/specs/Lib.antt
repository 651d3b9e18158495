pub mod Inside
pub mod Placed
pub mod Replays
pub mod Steps
pub mod Finishes
pub mod Rows
pub mod Lends
