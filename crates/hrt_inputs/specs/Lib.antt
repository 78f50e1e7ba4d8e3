pub mod Formulas
pub mod Inputs
pub mod Limits
pub mod Loading
pub mod Proofs
pub mod Rejections
pub mod Taken
