pub mod History
pub mod Histories
pub mod Places
