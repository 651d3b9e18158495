pub mod CopyLaws
pub mod ShipLaws
pub mod BaseLaws
pub mod BackupLaws
