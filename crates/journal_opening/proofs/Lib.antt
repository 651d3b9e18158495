pub mod FramePages
pub mod FreshPages
pub mod OpeningLaws
pub mod MakingLaws
