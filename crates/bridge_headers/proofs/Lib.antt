pub mod ClientLines
pub mod CookieLemmas
pub mod FramingLemmas
pub mod HeadLemmas
pub mod LineLemmas
pub mod Listed
pub mod Relayed
pub mod Texts
