pub mod Sizes
pub mod Conflicts
pub mod Counted
