pub mod GuardLemmas
pub mod KindLemmas
pub mod ListLemmas
pub mod MemoryLemmas
pub mod OperatorLemmas
pub mod SequenceLemmas
pub mod EntriesAgree
