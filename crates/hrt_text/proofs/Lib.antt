pub mod Scan
pub mod Words
pub mod Among
pub mod OpenGroup
pub mod Feeds
pub mod PlainLines
