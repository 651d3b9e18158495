pub mod Lengths
pub mod Steps
pub mod Longer
pub mod Unopened
pub mod Touched
