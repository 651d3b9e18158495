pub mod Passes
pub mod Untold
