pub mod Numbers
pub mod Broken
pub mod Rules
pub mod Cells
pub mod Pages
pub mod PageEdits
pub mod PointerLemmas
pub mod HeldPages
