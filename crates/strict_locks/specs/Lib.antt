pub mod ClientSet
pub mod Clients
pub mod Locks
pub mod Refusal
pub mod RowLends
pub mod Rows
pub mod Standing
