pub mod Jobs
pub mod Inner
