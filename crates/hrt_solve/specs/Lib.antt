pub mod Judged
pub mod Gauged
pub mod Lawful
pub mod Started
pub mod Claimed
pub mod Writing
pub mod Searched
