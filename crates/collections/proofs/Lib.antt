pub mod Alike
pub mod Bearing
pub mod MemberLaw
pub mod OneRow
pub mod FitRow
pub mod Linked
pub mod Listed
pub mod Planned
