pub mod ReplicaRounds
pub mod layer
