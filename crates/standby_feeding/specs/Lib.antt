pub mod Streams
pub mod Feedings
pub mod StoodBy
pub mod Line
