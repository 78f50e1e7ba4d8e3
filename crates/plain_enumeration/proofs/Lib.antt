pub mod Counts
pub mod Rejections
pub mod Existence
pub mod Sets
pub mod Trials
