pub mod Doors
pub mod Memory
pub mod Plan
pub mod Real
pub mod Rooms
pub mod Seat
