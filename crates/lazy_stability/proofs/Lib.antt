mod Tabled
mod Asked
pub mod Written
mod Blocking
pub mod Full
pub mod Honest
mod LoadText
mod Added
pub mod Loaded
pub mod Filled
pub mod Lazy
pub mod Matched
mod Listed
