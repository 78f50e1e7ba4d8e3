pub mod Ahead
pub mod Trails
pub mod Moves
pub mod Learning
pub mod Agreeing
pub mod Recorded
