pub mod Terms
pub mod Points
pub mod Normal
pub mod Rows
pub mod Closure
pub mod Formula
pub mod Joined
pub mod Weakened
