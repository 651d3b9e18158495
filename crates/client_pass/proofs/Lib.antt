pub mod Tries
pub mod Makings
pub mod Asked
pub mod Levels
pub mod Lasts
pub mod Events
pub mod Names
pub mod Kept
pub mod Together
pub mod Refusals
pub mod KeptLemmas
pub mod EndLemmas
pub mod SameLogs
pub mod FewScripts
pub mod StoredIds
pub mod LogOfRuns
mod Examples
mod KeptExamples
