pub mod Tallies
pub mod Verdict
