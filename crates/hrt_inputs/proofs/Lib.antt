pub mod KeptPorts
pub mod Ports
mod ProofFiles
pub mod ReadInstances
pub mod ReadModels
pub mod ReadPairs
pub mod TakenInstances
