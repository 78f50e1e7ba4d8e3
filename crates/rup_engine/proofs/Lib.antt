pub mod Emptied
pub mod Taking
pub mod Picking
pub mod Naming
pub mod Opposites
pub mod Occurrences
pub mod Rounds
pub mod Counting
pub mod Closings
pub mod Listing
pub mod Changing
mod Looks
mod Alike
mod Queues
mod Waiting
