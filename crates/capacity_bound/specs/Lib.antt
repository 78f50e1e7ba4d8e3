pub mod Ceiling
pub mod Steps
pub mod Bound
