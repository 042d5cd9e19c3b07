pub mod Numbers
pub mod Texts
pub mod Refusals
pub mod Faults
pub mod Done
pub mod DoneParts
pub mod Options
