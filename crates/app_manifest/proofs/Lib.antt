pub mod FirstPlace
pub mod PlainForms
pub mod Kept
pub mod Listed
pub mod Objects
pub mod Sets
