pub mod ReplicaRows
