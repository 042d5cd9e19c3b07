mod Places
mod Digests
mod Manifests
mod Checked
pub mod WellFormed
