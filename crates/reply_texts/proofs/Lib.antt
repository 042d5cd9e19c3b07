pub mod Members
pub mod Items
