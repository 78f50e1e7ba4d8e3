pub mod Draws
pub mod Swaps
pub mod Drafts
pub mod Rows
