pub mod Operands
pub mod Grammar
pub mod Output
pub mod Maps
pub mod Views
