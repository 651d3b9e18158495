pub mod Copied
pub mod Shipped
pub mod Base
pub mod Backups
