pub mod FrontLemmas
pub mod GapLemmas
pub mod LeadLemmas
pub mod PlaceLemmas
pub mod Runs
pub mod SpanLemmas
pub mod Uniqueness
