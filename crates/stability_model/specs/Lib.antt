pub mod Model
pub mod Gone
pub mod Making
