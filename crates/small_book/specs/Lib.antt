pub mod SmallBook
