pub mod Stated
pub mod Answering
pub mod Reading
pub mod Taking
