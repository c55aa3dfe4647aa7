pub mod Events
pub mod Spaces
pub mod Runs
pub mod ReplicaOrders
pub mod ReplicaSound
pub mod layer
