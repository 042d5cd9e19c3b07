pub mod Shifts
pub mod Crossing
