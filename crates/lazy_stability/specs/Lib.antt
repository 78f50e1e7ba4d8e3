pub mod Table
pub mod Candidates
pub mod Loads
pub mod Laws
