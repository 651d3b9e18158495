pub mod ShortLaws
pub mod SourceLaws
pub mod WaitingLaws
pub mod FedLaws
pub mod StoodLaws
pub mod WholeLaws
pub mod LineLaws
