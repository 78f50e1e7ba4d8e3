pub mod Tokens
pub mod Numbers
pub mod Readings
pub mod Rows
