pub mod Commits
pub mod FoldedObjects
pub mod Tallies
pub mod Differences
pub mod Checking
pub mod Feeds
pub mod Taking
pub mod Verdicts
