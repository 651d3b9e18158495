pub mod WindowLaws
pub mod TestLaws
pub mod BatchLaws
pub mod FoundLaws
