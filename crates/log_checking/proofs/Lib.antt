pub mod FedLaws
pub mod CheckLaws
