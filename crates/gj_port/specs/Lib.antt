pub mod Faults
pub mod Source
pub mod Sink
pub mod MemorySource
pub mod MemorySink
pub mod Stream
pub mod Whole
pub mod Runs
