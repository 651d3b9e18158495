pub mod Window
pub mod Tested
pub mod Current
