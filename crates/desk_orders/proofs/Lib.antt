pub mod OfOptions
pub mod OfOrders
pub mod Listed
pub mod OneListing
pub mod Drafts
