pub mod Pages
pub mod Clients
pub mod View
pub mod Since
pub mod Steps
pub mod Inside
pub mod Laws
