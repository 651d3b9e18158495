pub mod Place
pub mod InPlace
