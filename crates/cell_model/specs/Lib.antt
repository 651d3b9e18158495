pub mod Cells
pub mod Strong
pub mod Records
pub mod Consistent
pub mod Graph
pub mod Laws
