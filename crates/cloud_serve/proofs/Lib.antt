pub mod Collected
pub mod Growth
pub mod Orders
pub mod Taking
pub mod Serving
pub mod Runs
pub mod Stated
