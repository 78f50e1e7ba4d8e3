pub mod Spelling
pub mod Notes
pub mod Steps
pub mod FirstLine
pub mod Claims
pub mod Texts
