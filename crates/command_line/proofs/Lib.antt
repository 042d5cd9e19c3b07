pub mod LineFacts
pub mod Taking
