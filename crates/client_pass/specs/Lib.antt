pub mod Attempts
pub mod Scripts
pub mod Workings
pub mod Runs
