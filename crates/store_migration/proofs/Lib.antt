mod WidenedPages
pub mod ImagedLogs
pub mod MadeLogs
pub mod WideCells
pub mod WideGraphs
pub mod WidePages
pub mod Widths
mod Turns
pub mod Refused
