pub mod Sequence
pub mod Counting
pub mod LeastRanked
