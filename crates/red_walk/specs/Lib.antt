pub mod Ids
pub mod Walk
pub mod Inside
pub mod Rounds
