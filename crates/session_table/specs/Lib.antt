pub mod Standing
pub mod Verdict
pub mod Naming
pub mod Behind
