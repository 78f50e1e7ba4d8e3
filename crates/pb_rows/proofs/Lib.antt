pub mod Values
pub mod Order
pub mod Heads
pub mod Sums
pub mod Sizes
pub mod NormalSizes
pub mod Changes
pub mod Signs
pub mod Lasts
pub mod ByNets
pub mod Forms
pub mod Covers
pub mod Implied
pub mod Coefs
pub mod Weakenings
mod Worked
