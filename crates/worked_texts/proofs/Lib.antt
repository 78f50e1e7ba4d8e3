pub mod Accepted
pub mod Notes
pub mod Pairs
pub mod ProofLines
pub mod Refusals
pub mod Texts
