pub mod Limits
pub mod Spelling
pub mod Sending
pub mod Statements
pub mod Refusal
pub mod Drafts
