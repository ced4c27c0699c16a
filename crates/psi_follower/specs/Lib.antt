pub mod Taking
pub mod Answering
pub mod EntryBytes
pub mod Replicas
pub mod Inner
