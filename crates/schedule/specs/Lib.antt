pub mod Days
pub mod Filled
pub mod Meaning
pub mod Positions
pub mod Rank
pub mod Refusals
