pub mod Openings
pub mod Making
