pub mod Lines
pub mod Fields
pub mod Numbers
pub mod Operands
pub mod Grammar
pub mod Reading
pub mod LineReader
pub mod Output
