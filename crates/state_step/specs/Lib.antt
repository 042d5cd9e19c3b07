pub mod Staging
pub mod Changed
pub mod Losing
pub mod NewRows
pub mod Fits
