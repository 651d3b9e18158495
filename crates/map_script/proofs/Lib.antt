pub mod StoreLemmas
pub mod AnswerLemmas
pub mod FollowLemmas
pub mod TakenLemmas
pub mod StopLemmas
pub mod EndLemmas
pub mod ListLemmas
