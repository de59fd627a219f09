pub mod DecodingLemmas
pub mod DeterminedOperatorRefusals
