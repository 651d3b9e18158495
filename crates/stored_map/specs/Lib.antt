pub mod Graphs
pub mod Stores
pub mod Steps
pub mod Calls
pub mod Finding
