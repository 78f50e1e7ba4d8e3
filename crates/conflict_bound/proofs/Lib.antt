pub mod Parts
pub mod Distances
pub mod SetSizes
pub mod FreshSizes
pub mod Stretches
pub mod Counted
pub mod Worked
