pub mod Words
pub mod OneWord
pub mod GivenRoles
pub mod GoodNeeds
pub mod FirstRow
pub mod FitForms
pub mod Room
pub mod Stopped
