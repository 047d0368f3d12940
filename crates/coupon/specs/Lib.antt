pub mod Days
pub mod Lines
pub mod Coupons
pub mod Verdicts
pub mod Sound
pub mod SameLines
