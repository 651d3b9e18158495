pub mod Judged
pub mod Sweeping
pub mod Greening
pub mod Linked
pub mod GreenInside
pub mod GreenLaws
pub mod Laws
