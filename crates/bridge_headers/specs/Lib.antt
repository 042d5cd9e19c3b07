pub mod Cookies
pub mod Lines
pub mod Relay
pub mod Spans
pub mod Text
