mod Points
pub mod LoggedMatching
mod Opposed
mod ClosingLine
pub mod AfterLog
