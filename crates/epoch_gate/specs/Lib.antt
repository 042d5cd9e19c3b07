pub mod History
pub mod Books
pub mod Counting
pub mod Passes
