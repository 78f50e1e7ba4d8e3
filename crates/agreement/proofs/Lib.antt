pub mod Numbers
pub mod SameRows
pub mod Growing
pub mod Lines
