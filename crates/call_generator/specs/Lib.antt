pub mod Options
pub mod GenCommand
pub mod Draws
pub mod Generator
