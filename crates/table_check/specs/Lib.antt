pub mod Apart
pub mod Live
