pub mod Sections
pub mod TablesRows
pub mod RowOf
pub mod Checks
pub mod RowAfter
pub mod Kept
pub mod Numbered
