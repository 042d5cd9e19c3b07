pub mod Fits
pub mod Walks
pub mod FirstFaults
pub mod LiveRuns
pub mod Digests
pub mod Tells
pub mod Absent
