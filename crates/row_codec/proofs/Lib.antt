pub mod Joined
pub mod Views
pub mod ValuesRead
pub mod Written
pub mod Fitting
pub mod GrantWritten
