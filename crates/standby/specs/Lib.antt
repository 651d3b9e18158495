pub mod Following
pub mod Taking
pub mod Damage
pub mod Feeds
pub mod Laws
pub mod Promoted
pub mod Stored
pub mod Settled
