pub mod Pieces
pub mod Tables
pub mod Marks
pub mod Garbage
pub mod Reports
