mod AreaLaws
mod TestLaws
pub mod LineLaws
mod FieldLaws
mod ViewLaws
pub mod WindowLaws
pub mod WalkLaws
pub mod PrintLaws
