pub mod Below
pub mod Entrance
pub mod Held
pub mod Places
pub mod Plans
pub mod Pushed
pub mod Rooming
pub mod Sealing
pub mod Slots
pub mod Standing
mod WorkedPlans
