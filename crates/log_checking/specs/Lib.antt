pub mod Feedings
pub mod Checked
pub mod Line
