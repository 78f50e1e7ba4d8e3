pub mod Standing
pub mod Answers
pub mod Faults
pub mod Kept
pub mod Limits
pub mod Tests
pub mod Places
pub mod Endings
