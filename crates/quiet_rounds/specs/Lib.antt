pub mod Quiet
pub mod Laws
pub mod WholeRounds
pub mod Collections
pub mod JournalSteps
pub mod RoundNotes
pub mod StepsEnd
pub mod PlainWalk
