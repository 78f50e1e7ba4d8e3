mod Sweeps
mod Sorted
pub mod Rows
