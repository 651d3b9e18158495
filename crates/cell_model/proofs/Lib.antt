pub mod EditLaws
pub mod CountLaws
pub mod RecordLaws
pub mod StrongLaws
pub mod FlipLaws
pub mod KeptLaws
pub mod ConsistentLaws
pub mod SelfPointers
