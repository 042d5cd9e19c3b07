pub mod OnTime
pub mod Through
