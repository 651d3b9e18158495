pub mod Replay
pub mod Recount
