pub mod Histories
pub mod Entries
pub mod Tables
pub mod Passing
