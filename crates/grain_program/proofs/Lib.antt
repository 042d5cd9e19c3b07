pub mod Numbers
pub mod Taken
pub mod Texts
