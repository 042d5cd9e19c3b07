pub mod Doors
pub mod Connections
pub mod Working
pub mod Inner
