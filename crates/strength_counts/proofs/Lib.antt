pub mod Slots
pub mod StoreEdits
