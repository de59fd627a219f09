pub mod Faults
pub mod Places
pub mod BodyLemmas
pub mod CensusLemmas
