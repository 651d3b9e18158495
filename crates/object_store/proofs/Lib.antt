pub mod AloneLaws
pub mod EndLaws
pub mod AskLaws
pub mod KeptLaws
pub mod BeginLaws
pub mod CommitLaws
pub mod StartLaws
pub mod GetLaws
pub mod CollectLaws
pub mod TurnLaws
pub mod UpkeepLaws
pub mod TendLaws
mod TendedLaws
