pub mod Named
pub mod Makers
pub mod Roots
pub mod Follows
pub mod Accessed
pub mod Ascending
pub mod VerdictOne
