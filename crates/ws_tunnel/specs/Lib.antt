pub mod Hall
pub mod InMemory
