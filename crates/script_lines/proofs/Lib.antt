pub mod FieldLemmas
pub mod GrammarLemmas
pub mod NumberLemmas
pub mod LineLemmas
pub mod ReadLemmas
pub mod OutputLemmas
pub mod VerbLemmas
