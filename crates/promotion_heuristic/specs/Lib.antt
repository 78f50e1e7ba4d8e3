pub mod Heaps
pub mod Promotion
pub mod Queues
pub mod Rounds
