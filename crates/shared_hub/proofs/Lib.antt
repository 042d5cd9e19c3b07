pub mod BookOrders
pub mod BookTicks
pub mod Since
pub mod Passing
pub mod Manifests
pub mod States
pub mod Events
pub mod Histories
