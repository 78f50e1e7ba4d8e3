pub mod Instances
pub mod Models
pub mod Audits
pub mod SetsOfPairs
pub mod Promotions
pub mod OpbLines
pub mod OpbTexts
pub mod Conflicts
