pub mod Terms
pub mod Exchanges
pub mod Tunnels
pub mod Inner
