pub mod CountsLaws
pub mod Forgetting
pub mod LinkLaws
pub mod MadeLists
pub mod MemberLaws
pub mod QueueLaws
pub mod RefsLaws
pub mod RingLaws
